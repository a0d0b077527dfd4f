pub mod Hexed
pub mod Heads
pub mod Walked
pub mod Written
pub mod Levels
