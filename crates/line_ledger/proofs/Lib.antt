pub mod Summing
pub mod Searching
pub mod Writing
pub mod Opened
pub mod Ways
