pub mod Counting
pub mod Joining
