pub mod Placed
pub mod Fits
