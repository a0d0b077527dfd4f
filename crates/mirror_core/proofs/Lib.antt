pub mod TagFacts
pub mod MergeFacts
pub mod ReadFacts
pub mod LawFacts
pub mod AfterFacts
pub mod ApplyFacts
