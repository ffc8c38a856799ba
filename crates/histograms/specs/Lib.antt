pub mod Windows
pub mod Arrivals
pub mod Spans
pub mod Edges
pub mod Parts
