pub mod Halves
pub mod Decoding
