pub mod Blocks
pub mod Next
