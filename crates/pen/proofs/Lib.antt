pub mod Lay
pub mod Chain
pub mod Written
