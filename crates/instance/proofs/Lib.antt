mod Held
pub mod Exact
