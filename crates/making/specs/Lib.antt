pub mod Making
pub mod Errors
pub mod Steps
