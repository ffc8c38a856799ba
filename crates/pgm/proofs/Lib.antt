pub mod Tokens
pub mod Mapping
pub mod Passes
pub mod Theorems
