pub mod Lists
pub mod Printers
