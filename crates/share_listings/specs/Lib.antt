pub mod Answers
pub mod Memberships
pub mod Changes
pub mod SheetRows
