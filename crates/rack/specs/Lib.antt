pub mod Promise
pub mod Candidates
pub mod Counts
pub mod Runs
