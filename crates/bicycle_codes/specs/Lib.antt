pub mod Bicycle
pub mod Laws
pub mod Writing
pub mod Table
