pub mod Faults
pub mod Closing
pub mod Opening
