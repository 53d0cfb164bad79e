mod Lifts
mod Ones
pub mod Loops
pub mod Walking
pub mod Turning
