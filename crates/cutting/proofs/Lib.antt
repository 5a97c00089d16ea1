pub mod Nexts
pub mod Full
