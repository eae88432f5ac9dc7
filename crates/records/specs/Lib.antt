pub mod Record
pub mod Kind
