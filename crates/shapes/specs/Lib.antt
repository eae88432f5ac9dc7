pub mod Class
pub mod Shape
pub mod Table
