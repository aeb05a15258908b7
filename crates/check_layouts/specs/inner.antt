-- What the functions inside the crate find, which no contract of a public one cites.
pub mod Fields
pub mod Places
