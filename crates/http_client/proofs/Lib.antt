pub mod ReplyLaws
pub mod Fed
pub mod Numerals
mod FormsBack
pub mod HeadsBack
mod NamesBack
mod TargetsBack
mod PathsBack
mod ParametersBack
mod WantsBack
pub mod RequestBack
pub mod StatusRead
mod Pushes
