pub mod Levels
pub mod Fits
