-- What is known of planned parts, for crates that stand on the settling of parts.
pub use Rattle.reo_settling.proofs.Plannings.{all_served, count_same, fewer_none, fewer_twice, kept_elsewhere, kept_fewer, kept_later, knots_stay, mark_same, number_is, told_by_joints}
