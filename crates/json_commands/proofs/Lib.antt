pub mod Stopping
pub mod Fed
pub mod TagsRead
pub mod Senses
