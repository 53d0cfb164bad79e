pub mod Gaps
pub mod Lexing
pub mod Faults
pub mod Skipping
pub mod Onward
