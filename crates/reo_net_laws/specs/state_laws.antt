pub mod States
pub mod Keys
pub mod Walks
pub mod Turns
