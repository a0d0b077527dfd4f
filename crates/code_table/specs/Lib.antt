pub mod Rows
pub mod Standard
pub mod Fits
pub mod Reply
