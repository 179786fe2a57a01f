pub mod Told
pub mod Telling
pub mod Lawfully
