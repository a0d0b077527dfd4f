pub mod Faults
pub mod Lines
pub mod Terms
pub mod Places
pub mod Begun
pub mod Runs
pub mod Laws
