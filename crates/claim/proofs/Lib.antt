pub mod Candidates
pub mod Window
pub mod Claim
