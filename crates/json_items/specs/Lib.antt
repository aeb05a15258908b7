pub mod Adjusts
pub mod Closures
pub mod Impls
pub mod Inference
pub mod Items
pub mod Layouts
