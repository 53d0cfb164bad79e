pub mod Words
pub mod Certificates
pub mod OneTrace
pub mod Proofs
