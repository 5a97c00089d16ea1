pub mod Stays
pub mod Turning
pub mod Moves
pub mod Running
pub mod Marked
