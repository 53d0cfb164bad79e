pub mod Verdicts
mod SoFar
mod Lists
mod FaultLemmas
mod ReplayLemmas
mod VerdictLemmas
mod FirstsLemmas
