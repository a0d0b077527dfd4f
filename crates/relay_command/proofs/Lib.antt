pub mod Telling
pub mod Nets
pub mod Staying
pub mod Staff
pub mod Success
pub mod Shown
pub mod Unstopped
pub mod Succeeding
