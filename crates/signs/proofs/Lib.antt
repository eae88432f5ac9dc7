pub mod Step
pub mod Operators
