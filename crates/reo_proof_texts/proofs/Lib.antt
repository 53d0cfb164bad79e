pub mod CutLemmas
pub mod RoundLemmas
pub mod VerdictLemmas
pub mod FirstLemmas
