pub mod ItemFacts
pub mod RowFacts
pub mod LibraryFacts
pub mod DifferenceFacts
pub mod StepFacts
pub mod PutFacts
pub mod ChangeFacts
pub mod RelayFacts
