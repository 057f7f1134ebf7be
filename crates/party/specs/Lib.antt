pub mod Decides
pub mod Limits
pub mod Text
pub mod Party
