pub mod UnderFacts
pub mod LeadFacts
pub mod TurnFacts
pub mod FoundFacts
pub mod NeedFacts
pub mod ValueFacts
pub mod LawFacts
pub mod LoweredFacts
