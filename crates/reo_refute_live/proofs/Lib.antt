pub mod HoldLemmas
pub mod OpenLemmas
pub mod TableLemmas
pub mod TrailLemmas
pub mod ValueLemmas
