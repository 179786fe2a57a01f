pub mod Meanings
pub mod Notes
