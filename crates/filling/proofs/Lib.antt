pub mod KeptRows
pub mod OpenBelow
pub mod KeptQubits
pub mod Fills
