pub mod Proving
pub mod Rounds
