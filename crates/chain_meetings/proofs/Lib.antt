pub mod Ordered
pub mod Chained
pub mod RowsBehind
pub mod Restarted
pub mod Resumed
