pub mod Sources
pub mod Closings
pub mod Laws
