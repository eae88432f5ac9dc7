pub mod Root
pub mod Put
