pub mod Scanning
pub mod Checks
