pub mod Joined
pub mod Shows
pub mod Derived
pub mod SoundKept
pub mod Glsl
pub mod Relaxed
pub mod Sample
