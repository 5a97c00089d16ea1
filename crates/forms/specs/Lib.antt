pub mod Words
pub mod Changes
pub mod Sides
pub mod Forms
