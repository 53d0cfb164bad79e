pub mod CertificateLemmas
pub mod DigitLemmas
pub mod LimitLemmas
pub mod WordLemmas
pub mod TraceLemmas
