pub mod Answers
pub mod Cases
pub mod Exact
pub mod Lines
mod Walks
