pub mod Beginning
mod NextCall
pub mod ShowsRead
pub mod SameRefusals
