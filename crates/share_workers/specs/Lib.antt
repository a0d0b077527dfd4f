pub mod Works
pub mod Ends
pub mod Steps
pub mod Keepers
pub mod Workers
