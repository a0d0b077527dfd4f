pub mod Mirrored
pub mod Bodies
pub mod Reading
pub mod ToldSeen
pub mod After
pub mod Changes
pub mod Laws
