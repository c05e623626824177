pub mod Numbers
pub mod Fills
pub mod Regulars
pub mod Pairs
pub mod Middles
pub mod Rows
pub mod Rounds
mod Placed
