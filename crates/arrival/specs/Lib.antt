pub mod Arrivals
pub mod Arriving
pub mod Rectangles
