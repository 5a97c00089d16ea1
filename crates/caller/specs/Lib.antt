pub mod TwoRecords
