pub mod Checksum
pub mod Telegram
pub mod Reading
pub mod Framing
pub mod Sending
pub mod ToSend
pub mod Counts
