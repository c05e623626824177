pub mod ReadBacks
pub mod FindLaws
