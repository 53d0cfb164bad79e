pub mod Named
pub mod KnotSearch
pub mod Isolating
pub mod Walked
