pub mod Digits
pub mod Lengths
pub mod Reading
pub mod Keeping
pub mod Dispatch
pub mod Negation
pub mod Padded
