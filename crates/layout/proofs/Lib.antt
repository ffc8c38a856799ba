pub mod Figures
pub mod Answers
pub mod Questions
pub mod Sequences
