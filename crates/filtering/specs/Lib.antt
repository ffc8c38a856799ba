pub mod Window
pub mod Judging
pub mod Moves
pub mod Messages
