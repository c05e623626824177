mod Cases
pub mod Decimals
pub mod Puts
