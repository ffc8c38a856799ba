pub mod Contents
pub mod Measure
pub mod Questions
pub mod Answers
pub mod Sequences
