pub mod Rects
pub mod Written
pub mod Parts
pub mod Answers
