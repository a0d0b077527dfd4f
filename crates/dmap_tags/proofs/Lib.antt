pub mod Sizes
pub mod Lengths
pub mod Fronts
pub mod SameFacts
