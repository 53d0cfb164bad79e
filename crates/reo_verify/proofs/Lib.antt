pub mod JamLemmas
pub mod SoFar
pub mod ReplayLemmas
pub mod VerdictLemmas
