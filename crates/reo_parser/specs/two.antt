pub mod LoopDepth
pub mod Reading
pub mod ParsedAny
