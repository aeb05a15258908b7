pub mod Answers
pub mod Built
pub mod Kept
pub mod Machines
pub mod Questions
pub mod Refusals
pub mod Sources
pub mod Valid
