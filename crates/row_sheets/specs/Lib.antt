pub mod Spelled
pub mod Held
pub mod Cells
pub mod Sheets
pub mod Changes
pub mod Turns
