pub mod Flaws
pub mod Reserved
