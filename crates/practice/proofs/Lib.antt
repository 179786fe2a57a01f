pub mod Doing
pub mod Turning
pub mod Lawfully
