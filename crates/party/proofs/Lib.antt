pub mod Values
pub mod Laws
pub mod Options
pub mod Content
pub mod Theorems
