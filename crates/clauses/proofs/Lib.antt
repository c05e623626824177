pub mod Answered
pub mod Cases
mod CellWords
mod Translation
mod Answering
