pub mod Loops
mod FillingLaws
mod Visits
mod Verdicts
mod Parts
