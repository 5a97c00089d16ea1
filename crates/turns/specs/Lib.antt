pub mod Lists
pub mod Turns
pub mod Runs
pub mod Lent
