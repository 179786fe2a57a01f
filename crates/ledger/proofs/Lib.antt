pub mod Adding
pub mod Puts
pub mod Fairly
pub mod OnePair
pub mod Passing
pub mod Keeping
pub mod Holding
pub mod Pairs
