pub mod Same
pub mod Tallying
pub mod Lowering
pub mod Raising
pub mod Finding
pub mod Dangling
