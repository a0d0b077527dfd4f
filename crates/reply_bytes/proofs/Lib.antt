pub mod ReasonFacts
pub mod Cut
