pub mod Ranges
pub mod Figures
pub mod Kinds
pub mod Refusals
pub mod Classes
pub mod Numbers
