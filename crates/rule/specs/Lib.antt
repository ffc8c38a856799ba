pub mod Mended
pub mod Sums
pub mod Cover
pub mod Steps
pub mod Pixels
pub mod Accuracy
pub mod Questions
pub mod Extremes
