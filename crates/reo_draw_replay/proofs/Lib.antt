pub mod OneRoundLemmas
pub mod DrawnLemmas
pub mod ShownLemmas
