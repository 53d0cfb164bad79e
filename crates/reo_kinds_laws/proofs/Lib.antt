pub mod Keeping
pub mod Running
pub mod Flowing
pub mod Fair
pub mod Filtering
pub mod Mapping
