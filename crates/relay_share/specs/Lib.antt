pub mod Asks
pub mod Turns
pub mod Rounds
pub mod Ends
pub mod Steps
pub mod Laws
