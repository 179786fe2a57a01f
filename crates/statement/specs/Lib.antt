pub mod Words
pub mod Pairs
pub mod Rows
pub mod Statements
