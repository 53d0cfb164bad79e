pub mod PieceLemmas
pub mod HeardLemmas
pub mod TakeLemmas
