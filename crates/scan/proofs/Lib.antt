pub mod States
pub mod Rooms
pub mod Filters
pub mod Faces
