pub mod HeldStates
pub mod Answers
pub mod Range
pub mod Lowest
pub mod Numbers
pub mod Window
