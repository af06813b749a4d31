pub mod Same
pub mod Partly
pub mod Turns
