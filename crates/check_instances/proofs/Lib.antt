pub mod Layers
pub mod AllThere
pub mod Orders
pub mod Following
pub mod Parts
pub mod Reach
pub mod Cases
pub mod Opened
