pub mod Keeping
pub mod LiveValues
