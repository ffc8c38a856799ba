pub mod Rules
pub mod Calls
