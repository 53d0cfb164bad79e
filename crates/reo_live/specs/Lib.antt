pub mod base
pub mod talk
pub mod closings
pub mod hearing
