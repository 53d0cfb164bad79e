pub mod Joining
pub mod Still
pub mod Weighing
