pub mod Counts
pub mod Effects
pub mod Closings
pub mod Called
pub mod Listings
pub mod Refusing
pub mod Payments
