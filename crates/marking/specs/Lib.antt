pub mod Orders
pub mod Deals
