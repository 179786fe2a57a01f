pub mod Rows
pub mod Sharing
pub mod Opening
pub mod Lines
pub mod Reading
