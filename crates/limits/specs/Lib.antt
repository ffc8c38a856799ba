pub mod Limits
pub mod Headers
pub mod Slots
pub mod Figures
