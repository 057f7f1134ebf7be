pub mod Reading
pub mod Options
pub mod Code
pub mod Detection
pub mod Choices
pub mod ChoicesCode
