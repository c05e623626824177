pub mod Looping
pub mod Opening
pub mod Told
