pub mod NotedLemmas
pub mod PassLemmas
pub mod RowLemmas
pub mod VisitLemmas
