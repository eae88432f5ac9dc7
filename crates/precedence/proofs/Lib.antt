pub mod Codes
pub mod Tree
