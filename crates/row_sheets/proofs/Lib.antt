pub mod PairFacts
pub mod TurnFacts
pub mod HeldFacts
pub mod CellFacts
pub mod SheetFacts
pub mod StepFacts
