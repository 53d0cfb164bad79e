pub mod Added
pub mod Ranges
