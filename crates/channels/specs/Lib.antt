pub mod Image
pub mod Rules
pub mod Places
pub mod Setting
pub mod Deeds
