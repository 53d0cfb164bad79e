pub mod OneLine
pub mod LogLemmas
pub mod NextLemmas
