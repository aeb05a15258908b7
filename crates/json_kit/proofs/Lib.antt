pub mod Arrays
pub mod Digits
pub mod Entries
pub mod Faults
pub mod HexPairs
pub mod Members
