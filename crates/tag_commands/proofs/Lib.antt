pub mod Tagged
pub mod FewEvents
pub mod Counted
pub mod Showing
pub mod InStep
pub mod Learned
pub mod Backed
pub mod Senses
