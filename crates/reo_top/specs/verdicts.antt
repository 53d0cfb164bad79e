pub mod VerdictTexts
pub mod ProofStatuses
pub mod Judged
