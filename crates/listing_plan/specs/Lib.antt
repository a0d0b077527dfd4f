pub mod Limits
pub mod Planned
pub mod Plans
pub mod Lengths
pub mod Runs
pub mod Held
pub mod Pages
pub mod Laws
