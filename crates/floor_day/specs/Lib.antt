pub mod Days
pub mod Parts
