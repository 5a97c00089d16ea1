pub mod Turns
pub mod Sets
pub mod Sharing
