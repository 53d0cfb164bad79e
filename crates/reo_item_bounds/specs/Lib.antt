pub mod Bounds
pub mod Kept
pub mod Laws
pub mod Shares
