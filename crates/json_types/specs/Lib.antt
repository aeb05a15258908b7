pub mod Ids
pub mod Kinds
pub mod Types
