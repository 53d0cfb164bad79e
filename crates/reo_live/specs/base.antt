pub mod Lines
pub mod Held
pub mod Live
pub mod Answers
pub mod Events
pub mod Hearing
pub mod Laws
