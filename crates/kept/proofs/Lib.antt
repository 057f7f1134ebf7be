pub mod Laws
pub mod Lines
pub mod Trims
pub mod Exact
pub mod FieldExact
