pub mod Aggregates
pub mod Bytes
pub mod Computed
pub mod Constants
pub mod Laws
pub mod Operators
