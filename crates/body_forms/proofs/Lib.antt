pub mod Calls
pub mod Causes
pub mod Copies
pub mod Listed
pub mod Forms
pub mod Results
pub mod Arranged
pub mod Sources
