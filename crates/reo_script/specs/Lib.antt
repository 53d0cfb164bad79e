pub mod RepeatDepth
pub mod Reading
pub mod Places
pub mod Lines
pub mod scripts
