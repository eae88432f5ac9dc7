pub mod Line
pub mod Told
