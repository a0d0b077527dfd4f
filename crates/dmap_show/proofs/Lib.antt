pub mod Utf8
pub mod Once
pub mod EventLines
pub mod Pushed
pub mod Alone
pub mod Members
pub mod TextLengths
pub mod Taken
pub mod Remaining
mod Stands
mod Zipper
mod Following
pub mod OneText
