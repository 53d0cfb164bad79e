pub mod EndLemmas
pub mod NoteLemmas
