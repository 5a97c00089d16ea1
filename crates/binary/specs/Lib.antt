pub mod Bits
pub mod Meaning
pub mod Classes
pub mod Words
pub mod Elimination
pub mod Rank
