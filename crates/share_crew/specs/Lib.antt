pub mod Lines
pub mod Verdicts
pub mod Listeners
pub mod WorkerRuns
pub mod Crews
pub mod Gathered
pub mod Begun
pub mod Outcomes
