pub mod Bits
pub mod Table
pub mod Classes
pub mod Checks
pub mod Parts
