pub mod Walk
pub mod Reading
pub mod Reader
pub mod WholeTag
pub mod Faults
pub mod Events
