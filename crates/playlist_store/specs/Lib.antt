pub mod Words
pub mod Tests
pub mod Names
pub mod Lists
pub mod Reads
pub mod Store
pub mod Stands
pub mod Changes
