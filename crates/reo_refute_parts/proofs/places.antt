pub mod AllowedLemmas
pub mod MarkLemmas
pub mod PlaceLemmas
