pub mod Loops
pub mod Answering
pub mod Only
pub mod Answered
