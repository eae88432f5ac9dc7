pub mod Examples
pub mod Range
pub mod Read
pub mod Refusal
pub mod RoundTrip
pub mod Contracts
pub mod Shorter
