pub mod KindsInMemory
pub mod Stepping
mod HeardOverMemory
mod TurnedOverMemory
mod StoredOverMemory
mod ExchangeReplied
mod CompletedOverMemory
mod PassedBy
mod SentOverMemory
mod Ticking
mod UserOverMemory
