pub mod Listed
pub mod PlainMarks
pub mod Standing
pub mod Stars
pub mod Tallies
