pub mod Logs
pub mod Proofs
pub mod run_proofs
