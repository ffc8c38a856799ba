pub mod Faults
pub mod Forms
