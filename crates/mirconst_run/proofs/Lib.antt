pub mod Answering
pub mod Moving
pub mod Reporting
pub mod Running
pub mod Stopping
