pub mod IndexState
pub mod Adding
pub mod Fold
pub mod WholePage
pub mod Indexed
pub mod Demand3
pub mod Delivered
pub mod Code
