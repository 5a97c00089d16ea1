pub mod Readout
