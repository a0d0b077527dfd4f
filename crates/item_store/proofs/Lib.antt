pub mod ItemFacts
pub mod BatchFacts
pub mod StandFacts
