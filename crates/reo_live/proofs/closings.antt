pub mod Taking
pub mod ClosingLemmas
pub mod OneClosing
pub mod TakenLemmas
