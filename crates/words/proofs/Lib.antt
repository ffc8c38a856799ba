pub mod Alike
pub mod Steps
pub mod Places
pub mod Digits
