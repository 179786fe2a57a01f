pub mod Faults
pub mod Codes
pub mod Fields
pub mod Gathered
pub mod Told
pub mod Parsing
pub mod Written
pub mod Handing
