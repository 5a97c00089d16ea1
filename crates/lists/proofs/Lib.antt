pub mod Clearing
pub mod Copying
pub mod Filling
