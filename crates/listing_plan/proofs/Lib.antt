pub mod Spelled
pub mod Short
pub mod Bodies
pub mod RunFacts
pub mod SheetFacts
pub mod Moves
pub mod Writing
pub mod Samples
