pub mod Flushed
pub mod Rest
pub mod Parts
