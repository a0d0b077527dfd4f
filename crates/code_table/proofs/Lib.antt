pub mod Tellings
pub mod ReadsBack
pub mod Index
