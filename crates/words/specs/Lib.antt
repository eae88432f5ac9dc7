pub mod Bytes
pub mod Letter
pub mod Word
pub mod Symbol
pub mod Keyword
pub mod Form
