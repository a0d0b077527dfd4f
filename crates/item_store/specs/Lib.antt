pub mod Store
pub mod Stands
pub mod Changes
