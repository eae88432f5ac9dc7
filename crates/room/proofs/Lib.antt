pub mod Laid
pub mod Loops
pub mod Fit
