pub mod Places
pub mod Scan
pub mod Parts
pub mod Unfold
pub mod Fronts
pub mod Placed
pub mod Trees
pub mod Programs
