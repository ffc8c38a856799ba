pub mod Format
pub mod Headers
pub mod Before
pub mod Writing
