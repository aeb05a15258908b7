pub mod Moving
pub mod Refusing
pub mod Standing
