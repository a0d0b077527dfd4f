pub mod Settings
pub mod SmallBodies
pub mod Replies
pub mod Added
pub mod Answers
pub mod Laws
