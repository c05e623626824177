-- How far a search is taken up again.
pub mod Limits
pub mod Private
