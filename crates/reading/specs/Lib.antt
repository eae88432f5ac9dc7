pub mod Call
pub mod Read
pub mod Demand3
pub mod Spaces
