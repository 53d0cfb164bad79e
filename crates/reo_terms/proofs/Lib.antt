pub mod Among
pub mod Turns
pub mod Fronts
pub mod Counts
pub mod Whole
pub mod Answering
pub mod Only
pub mod Decided
