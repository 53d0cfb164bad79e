-- What is known of planned parts, for crates that stand on plans of parts.
pub use Rattle.reo_planning.proofs.Elsewhere.{kept_elsewhere, kept_fewer, kept_later, mark_is}
pub use Rattle.reo_planning.proofs.Firsts.{planned_fit}
pub use Rattle.reo_planning.proofs.Flowing.{mark_same, told_by_joints}
pub use Rattle.reo_planning.proofs.KnotSets.{elsewhere, number_is}
pub use Rattle.reo_planning.proofs.Parting.{ArePlannedSoFar, all_served, least_over, planned_more, planned_none, served}
pub use Rattle.reo_planning.proofs.Passing.{passed_on}
pub use Rattle.reo_planning.proofs.Setting.{fewer_none, fewer_twice}
pub use Rattle.reo_planning.proofs.Shapes.{count_same, knots_stay}
pub use Rattle.reo_planning.proofs.Summing.{ticked_all, ticked_more, ticked_over}
