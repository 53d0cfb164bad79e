pub mod Again
pub mod Seen
