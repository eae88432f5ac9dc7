pub mod Listed
pub mod Places
pub mod Rule
pub mod Slots
pub mod Sections
