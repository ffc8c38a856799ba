pub mod Biased
pub mod Starts
pub mod Pixels
pub mod Takes
pub mod Theorems
pub mod Shares
