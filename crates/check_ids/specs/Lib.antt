pub mod Nodes
pub mod Inferred
pub mod Parts
