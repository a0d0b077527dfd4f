pub mod Gathered
pub mod Made
pub mod Work
pub mod Worked
