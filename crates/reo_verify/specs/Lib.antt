pub mod Seeing
pub mod Replayed
pub mod judging
