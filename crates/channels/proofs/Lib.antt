pub mod Columns
pub mod Exact
pub mod Same
pub mod Room
pub mod Set
pub mod Found
pub mod Fours
pub mod Done
