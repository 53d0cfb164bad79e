pub mod Indexed
pub mod Expansion
pub mod Steps
pub mod Lifted
pub mod Lifting
pub mod Judged
