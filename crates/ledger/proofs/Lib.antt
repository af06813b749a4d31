pub mod Runs
pub mod Some
pub mod Settling
pub mod ByCases
pub mod Kept
pub mod Exchange
pub mod History
pub mod Hearing
pub mod ByGrammar
pub mod ReadBack
pub mod Fit
pub mod EventsCarried
pub mod EventsFollow
pub mod ModesKept
pub mod OctetReplies
pub mod OctetsCarried
pub mod Octets
pub mod RequestKept
pub mod FlagKept
pub mod Repeats
pub mod OneWay
pub mod Expiry
pub mod Refills
pub mod Watchdog
pub mod Demand2
pub mod Scripts
mod Computing
pub mod Bench
mod Cases
mod ModeCases
mod RetryCases
mod OneWayCases
mod PendingCases
mod WatchdogCases
