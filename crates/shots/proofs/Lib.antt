pub mod Blocks
pub mod Rests
pub mod Runs
