pub mod Calls
pub mod Window
pub mod Candidates
pub mod Claim
