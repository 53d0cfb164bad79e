-- Breaks found one after another.
pub use Rattle.reo_rules.proofs.AfterLemmas.{after_first, after_more, first_left, flat_first, flat_map-append, flat_more, judged_err, judged_right, judged_same, more_flat, more_mapped, more_seen, right_none, where_false}
