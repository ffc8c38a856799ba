pub mod States
pub mod Filters
pub mod Faces
