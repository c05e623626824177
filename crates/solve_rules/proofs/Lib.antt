pub mod Calls
pub mod Smallest
pub mod Demand3
pub mod Findings
pub mod MoreSteps
pub mod Finds
pub mod Narrower
pub mod Resumed
