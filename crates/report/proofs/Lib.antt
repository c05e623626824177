mod Pieces
pub mod Texts
pub mod Tells
pub mod Printing
pub mod Cases
mod MemberCells
