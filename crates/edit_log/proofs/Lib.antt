pub mod LogFacts
