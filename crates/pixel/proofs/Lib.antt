pub mod Answers
pub mod Accepts
pub mod Theorems
pub mod Strips
