pub mod Around
pub mod Rest
