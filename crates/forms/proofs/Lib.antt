pub mod WordBits
pub mod FormWords
pub mod Joining
pub mod Changing
pub mod TakingUp
pub mod Putting
