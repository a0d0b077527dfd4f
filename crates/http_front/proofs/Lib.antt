pub mod FirstOffset
pub mod OneAsk
pub mod ReadingLaws
pub mod Fed
pub mod ValidRefusals
pub mod ValidWants
pub mod Decided
