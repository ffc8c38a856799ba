pub mod Signs
pub mod Fitting
pub mod Looks
pub mod Exact
pub mod Weights
pub mod Answers
