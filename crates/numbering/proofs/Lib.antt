pub mod Carries
pub mod Known
pub mod Counting
pub mod Numbered
