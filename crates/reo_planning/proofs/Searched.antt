-- What is known of searches and their tables, for crates that stand on plans.
pub use Rattle.reo_propagate.specs.Queues.{among}
pub use Rattle.reo_search_tables.proofs.Renewed.{among_contains, contains_among}
pub use Rattle.reo_search.proofs.Isolating.{rows_same}
pub use Rattle.reo_search.proofs.Walked.{among_sides, sides_below}
