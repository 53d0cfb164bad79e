pub mod Written
pub mod Keeping
pub mod Planned
pub mod Faults
pub mod Marked
pub mod Unsettling
pub mod PartOf
