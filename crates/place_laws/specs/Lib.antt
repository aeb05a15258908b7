pub mod Bounds
pub mod Literals
pub mod Parts
pub mod Writes
