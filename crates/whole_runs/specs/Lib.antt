pub mod Granting
pub mod Steps
pub mod Law
