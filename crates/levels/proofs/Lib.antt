pub mod Ors
pub mod Changes
pub mod Lines
pub mod Ranks
