pub mod Histories
pub mod Known
pub mod Lent
pub mod Passes
pub mod Plays
pub mod Rule
