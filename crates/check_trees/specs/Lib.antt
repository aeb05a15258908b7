pub mod First
pub mod Tree
pub mod Jumps
pub mod Ellipsis
pub mod inner
