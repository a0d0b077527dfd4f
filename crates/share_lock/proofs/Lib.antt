pub mod Fronts
pub mod Holding
pub mod Moves
pub mod Steps
pub mod Tells
