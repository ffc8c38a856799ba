pub mod Grammar
pub mod Raster
pub mod Shade
pub mod Text
