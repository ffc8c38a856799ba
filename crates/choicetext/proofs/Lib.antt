pub mod Digits
pub mod Shown
pub mod Theorems
