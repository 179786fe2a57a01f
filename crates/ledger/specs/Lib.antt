pub mod Ranging
pub mod Books
pub mod Questions
pub mod Moves
pub mod Laws
pub mod Settling
pub mod Opening
