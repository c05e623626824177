pub mod Slices
mod Lowest
mod Touches
mod StepCode
mod RunCode
mod NextCode
mod TwoRuns
