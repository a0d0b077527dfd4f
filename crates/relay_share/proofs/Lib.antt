pub mod TurnFacts
pub mod EditFacts
pub mod RoundFacts
pub mod EndFacts
pub mod StepFacts
pub mod StopFacts
pub mod LeftFacts
pub mod ShareLibraries
