pub mod Orders
pub mod Places
pub mod SameScalars
pub mod SameType
pub mod formers
