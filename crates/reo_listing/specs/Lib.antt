pub mod Listable
pub mod Parts
pub mod base
pub mod laws
pub mod rows
pub mod gates
pub mod answers
pub mod texts
