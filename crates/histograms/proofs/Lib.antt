mod Zero
mod Edge
mod Slides
mod Runs
mod Rows
pub mod Counts
