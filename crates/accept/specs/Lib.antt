pub mod Refusal
pub mod Checked
pub mod Check
