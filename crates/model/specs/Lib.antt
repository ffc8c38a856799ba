pub mod Rows
pub mod Machines
pub mod Wholes
pub mod Refusals
