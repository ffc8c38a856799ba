pub mod Choices
pub mod Stores
pub mod Front
