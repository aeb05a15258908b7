pub mod Instances
pub mod Parts
pub mod Variants
pub mod Comparisons
pub mod Made
pub mod Ready
