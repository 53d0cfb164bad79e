pub mod VerdictLemmas
pub mod ProofLemmas
