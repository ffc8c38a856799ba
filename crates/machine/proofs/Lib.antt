pub mod Goods
pub mod Lefts
pub mod Answers
