pub mod Bounds
pub mod Interning
pub mod Queries
mod Targets
pub mod WholePlaces
