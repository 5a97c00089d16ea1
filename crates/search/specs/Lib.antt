pub mod Route
pub mod Marked
pub mod Search
pub mod Ranks
