pub mod Rounds
pub mod Laws
pub mod Drawn
pub mod Shown
pub mod Steps
