pub mod Goals
pub mod Input
pub mod Refusals
pub mod Statuses
pub mod Streams
pub mod Words
