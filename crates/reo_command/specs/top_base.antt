pub mod Outputs
pub mod Cases
pub mod Answered
pub mod Owed
pub mod Stopped
