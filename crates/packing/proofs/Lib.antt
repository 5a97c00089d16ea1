pub mod Rows
pub mod Put
pub mod PackedRows
