mod Tallies
pub mod Found
pub mod Shades
pub mod Arrives
pub mod Stores
pub mod Later
pub mod Sequences
pub mod Wholes
pub mod Words
pub mod Asked
