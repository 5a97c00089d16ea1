pub mod Ranking
pub mod Testing
