pub mod Layers
pub mod Lines
