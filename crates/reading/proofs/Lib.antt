pub mod Numbers
pub mod RecordBytes
