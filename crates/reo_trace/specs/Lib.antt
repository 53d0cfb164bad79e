pub mod EndingText
pub mod Entries
pub mod Idle
pub mod RoundText
pub mod Spaced
pub mod TraceText
pub mod cells
