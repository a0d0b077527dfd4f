pub mod Queries
pub mod Records
pub mod Parameters
