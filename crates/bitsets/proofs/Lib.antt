pub mod Lowest
pub mod Searching
pub mod Flipping
