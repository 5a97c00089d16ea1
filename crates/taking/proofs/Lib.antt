pub mod Answers
pub mod Calls
pub mod Loop
pub mod Longer
