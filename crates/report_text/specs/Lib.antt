pub mod Consts
pub mod Faults
pub mod Goals
pub mod Ids
pub mod Memory
pub mod Names
pub mod Texts
pub mod Types
