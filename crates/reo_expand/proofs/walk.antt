mod LoopSteps
pub mod TurnSteps
mod Unfit
mod Values
