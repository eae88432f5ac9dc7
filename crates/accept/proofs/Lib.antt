pub mod Faults
pub mod Accepted
