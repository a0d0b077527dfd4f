pub mod Later
pub mod Telling
pub mod Losses
pub mod OneMore
pub mod Zipped
pub mod Crossing
pub mod Keepers
