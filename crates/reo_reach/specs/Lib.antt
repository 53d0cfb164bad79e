pub mod Added
pub mod Giving
pub mod Stays
pub mod Supplied
pub mod Width
