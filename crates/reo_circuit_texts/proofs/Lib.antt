pub mod PlainLemmas
pub mod OneLemmas
