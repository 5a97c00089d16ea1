pub mod Entering
pub mod Counts
pub mod Tied
