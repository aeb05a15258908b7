pub mod Computed
pub mod Digits
pub mod Shifting
pub mod SignedWords
pub mod UnsignedWords
