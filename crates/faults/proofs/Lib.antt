pub mod Past
pub mod Widths
