pub mod Digits
pub mod Reading
pub mod Shown
pub mod Asked
pub mod Made
pub mod Lengths
pub mod Numbers
pub mod Theorems
