pub mod TabledLemmas
pub mod RoundLemmas
pub mod NumberLemmas
pub mod DrawingLemmas
