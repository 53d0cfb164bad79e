-- Breaks found one after another.
pub use Rattle.reo_rules.proofs.AfterLemmas.{flat_map-append, more_flat, more_mapped, right_none, where_false}
