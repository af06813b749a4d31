pub mod NextRoom
pub mod CarriedOver
pub mod Settled
