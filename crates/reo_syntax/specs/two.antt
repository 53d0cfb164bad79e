pub mod IndexText
pub mod ItemText
pub mod Canonical
