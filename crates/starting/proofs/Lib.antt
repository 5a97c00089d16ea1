pub mod OpenMarks
pub mod Marks
pub mod Ways
