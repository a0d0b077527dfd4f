pub mod Orders
pub mod Chains
pub mod Restarts
pub mod Sequels
