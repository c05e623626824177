pub mod ClauseList
pub mod Marked
