pub mod Promising
pub mod Runs
pub mod Claimed
pub mod Tied
