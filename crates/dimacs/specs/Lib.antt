pub mod Answers
pub mod Private
pub mod Text
