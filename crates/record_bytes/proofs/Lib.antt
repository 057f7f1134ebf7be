pub mod Laws
pub mod Theorems
pub mod Stores
pub mod Parts
