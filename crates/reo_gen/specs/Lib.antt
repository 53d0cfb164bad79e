pub mod Names
pub mod Circuits
pub mod Scripts
pub mod laws
