pub mod Pages
pub mod Reads
pub mod Index
pub mod Code
