pub mod Below
pub mod Roles
pub mod Triples
pub mod Quads
pub mod Numbers
pub mod Bits
pub mod Word
pub mod Pending
mod WrongPending
