pub mod Construction
pub mod Flat
pub mod IntValue
pub mod MemoryLaws
pub mod Views
