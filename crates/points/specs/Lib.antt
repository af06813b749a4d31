pub mod Points
pub mod Lookup
