pub mod Rows
pub mod Joints
pub mod Lanes
