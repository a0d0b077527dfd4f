pub mod Replies
pub mod Gathers
pub mod Targets
pub mod Requests
pub mod Laws
