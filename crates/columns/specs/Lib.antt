pub mod Planes
pub mod Columns
