pub mod Grown
pub mod Stopped
