pub mod FaultLemmas
pub mod UnitLemmas
