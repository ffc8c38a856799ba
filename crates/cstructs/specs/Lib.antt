pub mod Answers
pub mod Ranks
