pub mod Widths
pub mod Weights
pub mod Over
pub mod Fewer
pub mod Bounds
pub mod Laws
pub mod still
