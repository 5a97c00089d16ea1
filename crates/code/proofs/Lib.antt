pub mod Lists
pub mod Turns
pub mod Flat
pub mod Push
pub mod Order
