pub mod Lists
pub mod Grouped
pub mod Statements
