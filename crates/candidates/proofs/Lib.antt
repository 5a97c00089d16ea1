pub mod Giving
pub mod Tied
