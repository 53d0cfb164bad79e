pub mod Changes
pub mod Flowing
pub mod Clearing
