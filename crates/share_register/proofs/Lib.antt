pub mod Live
pub mod Marking
pub mod Sound
