pub mod Answer
pub mod Settings
pub mod Bytes
pub mod State
