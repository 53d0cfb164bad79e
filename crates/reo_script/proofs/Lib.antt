pub mod Turns
pub mod Deepening
pub mod Empty
pub mod Bodies
pub mod Breaks
pub mod Only
pub mod OneEvent
