pub mod FirstRows
pub mod Recalled
pub mod Plannings
