pub mod ProveLemmas
pub mod RunLemmas
