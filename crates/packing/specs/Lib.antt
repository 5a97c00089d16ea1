pub mod Packed
pub mod Packing
pub mod PackedRows
