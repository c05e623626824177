-- The rules of the search and their run.
pub mod Rules
pub mod Run
pub mod Held
pub mod Counting
pub mod Following
pub mod Reached
pub mod Inner
