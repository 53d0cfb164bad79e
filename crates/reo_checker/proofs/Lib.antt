mod ChunkLemmas
pub mod ExactLemmas
pub mod FirstFaults
