pub mod Measured
pub mod Off
pub mod Sizes
