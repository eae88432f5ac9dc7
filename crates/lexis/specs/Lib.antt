pub mod Keywords
pub mod Number
pub mod Division
pub mod Glsl
pub mod Preprocessing
