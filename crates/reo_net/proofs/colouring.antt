pub mod FilledBefore
pub mod ItemLemmas
pub mod KeyLemmas
pub mod MoveLemmas
