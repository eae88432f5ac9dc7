pub mod Sheet
pub mod Run
pub mod Promise
pub mod Free
