pub mod Lists
pub mod Push
pub mod Tests
