pub mod Filing
pub mod Interface
pub mod Demand3
pub mod Profile
pub mod FiledRecords
pub mod KeptPage
pub mod Code
