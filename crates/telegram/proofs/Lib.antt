mod Steps
pub mod Run
pub mod Checksum
mod Accepts
mod ReadBack
mod Continues
mod Begun
mod Onward
mod Gather
mod Sums
pub mod Framing
pub mod Above
pub mod Computing
pub mod Sends
mod Bench
pub mod Counts
pub mod FirstOctets
pub mod OctetLists
