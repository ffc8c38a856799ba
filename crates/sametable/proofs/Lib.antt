pub mod Offsets
pub mod Said
