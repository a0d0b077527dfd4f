pub mod Unopened
pub mod LibraryFacts
pub mod Senses
pub mod Listed
pub mod Begun
pub mod ReplaySense
pub mod ReplayEndings
pub mod ReplayCauses
