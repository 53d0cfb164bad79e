pub mod HomeLemmas
pub mod LineLemmas
