pub mod Good
pub mod Going
pub mod Entries
pub mod Calls
pub mod Pairs
pub mod Runs
