pub mod Emission
pub mod Settling
