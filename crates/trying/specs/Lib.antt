pub mod Entries
pub mod Start
pub mod Turns
pub mod Trying
