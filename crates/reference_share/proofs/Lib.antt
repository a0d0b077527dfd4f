pub mod SaidFacts
pub mod LoopFacts
pub mod CountFacts
pub mod LoginFacts
pub mod FoundFacts
pub mod TextFacts
