pub mod Candidates
pub mod Asking
