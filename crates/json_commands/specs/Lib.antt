pub mod Whole
pub mod Json
pub mod JsonBack
pub mod Fed
