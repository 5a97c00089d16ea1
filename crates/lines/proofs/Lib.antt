pub mod Flips
pub mod Lengths
