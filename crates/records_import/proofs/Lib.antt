mod Cells
mod Digits
pub mod ReadBack
mod Rows
mod Walks
mod Answering
pub mod ValidEdits
mod Written
mod Texts
mod CellsBack
mod ItemsBack
mod RulesBack
mod Kept
mod RowsBack
pub mod Once
pub mod Decided
