pub mod Entries
pub mod Below
pub mod Offsets
pub mod Deltas
pub mod Bands
