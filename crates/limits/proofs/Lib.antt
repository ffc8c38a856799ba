pub mod Bounds
pub mod Values
pub mod Asked
pub mod Granted
pub mod Answers
