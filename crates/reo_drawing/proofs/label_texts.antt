pub mod Unfold
pub mod Shut
