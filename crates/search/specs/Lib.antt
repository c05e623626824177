-- What a call of the search answers and leaves.
pub mod Answers
pub mod Resumed
pub mod Resuming
pub mod First
pub mod Following
pub mod Every
pub mod Inner
