pub mod Booleans
pub mod Ranges
pub mod Assignments
pub mod StepView
pub mod Invariant
pub mod Found
pub mod Reached
pub mod Again
pub mod First
pub mod Theorems
pub mod Following
pub mod Passed
pub mod Reaching
pub mod Ending
pub mod Counting
pub mod Trails
mod Conditions
mod Decoding
mod Storing
pub mod StateHeld
pub mod Cases
pub mod StateCases
