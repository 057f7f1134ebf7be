pub mod Bytes
pub mod Classes
pub mod Checks
pub mod Examples
