pub mod RecordBytes
pub mod Code
