pub mod Senses
pub mod Idle
pub mod Ranges
pub mod MetRuns
mod ReachedRuns
pub mod ChainedRuns
mod KeptRuns
mod FileRuns
