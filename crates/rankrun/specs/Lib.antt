pub mod Rule
pub mod Sequences
pub mod Holds
pub mod Words
pub mod Asked
