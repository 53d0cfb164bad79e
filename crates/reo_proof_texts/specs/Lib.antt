pub mod Cuts
pub mod Proven
pub mod ProofVerdicts
pub mod Laws
pub mod proof_verdict_texts
pub mod verdict_words
