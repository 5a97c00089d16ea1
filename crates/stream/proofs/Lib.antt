pub mod Taking
pub mod Tied
