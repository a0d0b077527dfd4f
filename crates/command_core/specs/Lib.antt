pub mod Seen
pub mod Faults
pub mod Causes
pub mod Meanings
pub mod Endings
pub mod Answers
pub mod ReadRecords
