pub mod Ends
pub mod Kinds
pub mod Parts
