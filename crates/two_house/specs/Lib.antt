pub mod Houses
pub mod Parts
pub mod Pairs
pub mod Sides
