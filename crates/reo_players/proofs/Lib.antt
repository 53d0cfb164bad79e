pub mod Bodies
mod Stands
mod Passed
mod Present
mod Marked
mod Paces
mod PacedLemmas
pub mod Idling
