pub mod At
pub mod Grouped
pub mod Lists
pub mod Most
pub mod Parts
pub mod Printers
