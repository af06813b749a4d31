pub mod Order
pub mod Entries
pub mod Table
pub mod Command
pub mod Calls
pub mod Translation
pub mod Demand1
pub mod Demand3
