pub mod Shown
pub mod Operand
pub mod Qualifier
pub mod Jump
