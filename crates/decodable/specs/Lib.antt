pub mod Read
pub mod Tests
