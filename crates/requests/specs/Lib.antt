pub mod Narrow
pub mod Terms
pub mod Lists
