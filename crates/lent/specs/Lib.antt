pub mod Run
pub mod Exports
