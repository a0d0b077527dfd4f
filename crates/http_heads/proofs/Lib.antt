pub mod Scans
pub mod Frames
pub mod Digits
pub mod Takings
pub mod Messages
pub mod HeadsDecided
pub mod FrontsDecided
