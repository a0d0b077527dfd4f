pub mod TagObject
pub mod Reads
pub mod Places
pub mod Faults
pub mod Parts
pub mod Walk
