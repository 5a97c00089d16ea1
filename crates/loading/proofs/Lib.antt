pub mod Grown
pub mod Announced
pub mod TakenRows
