pub mod Theorems
pub mod Cases
pub mod ResumedCases
pub mod Outcomes
mod FoundRuns
pub mod Resumptions
mod Records
pub mod ResumedCalls
pub mod LeftStates
pub mod Resuming
pub mod ResumedTheorems
pub mod First
pub mod Counters
pub mod FollowingCalls
pub mod GoesBack
pub mod Every
pub mod MoreSteps
pub mod OpenSlices
pub mod Ends
