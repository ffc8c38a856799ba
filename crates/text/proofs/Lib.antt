pub mod Puts
pub mod Cells
pub mod Feeds
pub mod Pieces
pub mod Widths
pub mod Printed
