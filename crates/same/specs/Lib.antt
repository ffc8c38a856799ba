pub mod Same
pub mod Meaning
