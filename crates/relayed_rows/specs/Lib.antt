pub mod ReadRows
pub mod Libraries
pub mod Differences
pub mod Relays
pub mod Laws
pub mod Putting
pub mod Changes
pub mod Held
