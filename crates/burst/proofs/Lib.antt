pub mod Rests
pub mod Entries
