pub mod Appending
pub mod Reading
pub mod Sensible
pub mod Ended
pub mod ReadCauses
