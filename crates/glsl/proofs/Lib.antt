pub mod Outcome
pub mod Accepted
pub mod Question
pub mod Order
pub mod Rows
pub mod Unique
pub mod Contracts
pub mod Shorter
