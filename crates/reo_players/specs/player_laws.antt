pub mod Waiting
pub mod Moving
pub mod Repeats
