pub mod Stored
pub mod Fronts
pub mod Thirds
pub mod Theorems
