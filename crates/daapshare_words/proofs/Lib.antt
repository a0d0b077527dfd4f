pub mod Refused
pub mod Digits
pub mod Named
pub mod Parts
pub mod Plain
pub mod Taken
