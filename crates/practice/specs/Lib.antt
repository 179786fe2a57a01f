pub mod Requests
pub mod Gathering
pub mod Tasks
pub mod Working
