pub mod Left
pub mod Usage
pub mod Table
pub mod Laws
pub mod Chains
pub mod Files
