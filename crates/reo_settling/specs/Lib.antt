pub mod Held
pub mod Lookups
pub mod Plannings
