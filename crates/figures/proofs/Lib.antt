pub mod Bounds
pub mod Ceilings
pub mod Sizes
pub mod Low
pub mod Theorems
