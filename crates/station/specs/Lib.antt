pub mod Hearing
pub mod Completing
