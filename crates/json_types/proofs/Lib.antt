pub mod Alike
pub mod TypeLayers
pub mod TypeReaders
