pub mod Stores
pub mod Texts
pub mod Accepted
pub mod Windows
