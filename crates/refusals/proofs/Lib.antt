pub mod Widths
pub mod Past
