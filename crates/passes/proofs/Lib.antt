pub mod Columns
pub mod Prefixes
pub mod Steps
