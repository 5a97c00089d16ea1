pub mod TakingRows
pub mod ClosingRows
