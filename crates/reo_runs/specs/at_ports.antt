pub mod Pending
pub mod Between
pub mod Parts
pub mod Kinds
pub mod Runnable
