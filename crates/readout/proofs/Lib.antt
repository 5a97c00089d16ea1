pub mod Clearing
pub mod Marks
pub mod Shots
pub mod Adding
