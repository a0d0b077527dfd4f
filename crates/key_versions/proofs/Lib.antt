pub mod FoundFacts
pub mod HeldFacts
