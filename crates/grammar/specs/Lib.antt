pub mod Last
pub mod Strength
pub mod Chapter9
pub mod Same
