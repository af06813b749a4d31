pub mod Roles
pub mod Triple
pub mod Quad
pub mod Number
pub mod Events
