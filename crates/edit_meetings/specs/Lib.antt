pub mod Kept
pub mod EditMeetings
