pub mod Places
pub mod WorldPlaces
pub mod Meets
pub mod Valid
pub mod Rows
pub mod Laid
pub mod TypeIds
