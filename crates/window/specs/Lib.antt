pub mod Entering
pub mod Counts
