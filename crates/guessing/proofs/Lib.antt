pub mod Adding
pub mod Weighing
pub mod Renewing
pub mod Choices
pub mod Room
