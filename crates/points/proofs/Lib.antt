pub mod Places
pub mod EachOnce
pub mod Looking
pub mod Promises
