pub mod Grid
pub mod Lines
