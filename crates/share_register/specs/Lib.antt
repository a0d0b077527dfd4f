pub mod Counts
pub mod Registers
