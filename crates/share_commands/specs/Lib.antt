pub mod Looks
pub mod ListShare
pub mod LookFaults
pub mod Openings
pub mod RehearseShare
pub mod ReadScript
pub mod Moments
pub mod ReplayShare
