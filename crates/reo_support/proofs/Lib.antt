pub mod Existence
pub mod Forest
pub mod Greatest
pub mod Labels
pub mod Rows
