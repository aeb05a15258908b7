mod Bounds
mod Literals
mod Parts
mod Pigeonhole
mod Placed
mod Updates
mod UsedUpdates
mod Writes
