pub mod Planes
pub mod HighPlanes
pub mod Narrowing
pub mod Words
pub mod Taking
