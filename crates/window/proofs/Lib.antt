mod Orders
mod Rows
mod Found
pub mod Entered
mod Present
mod Answers
pub mod Demand1
mod EntryAlike
mod Translated
mod Places
pub mod Demand3
