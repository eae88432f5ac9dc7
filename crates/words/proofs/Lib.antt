pub mod Tests
pub mod Laws
pub mod Floats
pub mod Search
pub mod Names
pub mod Sorts
pub mod Examples
