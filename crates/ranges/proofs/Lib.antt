pub mod Words
pub mod Limits
pub mod Halves
