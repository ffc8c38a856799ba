pub mod Call
pub mod Demand
pub mod Strips
