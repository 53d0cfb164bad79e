-- What is planned of parts, for crates that stand on the settling of parts.
pub use Rattle.reo_part_plans.specs.Plannings.{AllServe, AreApart, AreBetweenUnsettled, AreFewer, AreMarkedUnsettled, AreMovingUnsettled, ArePlanned, AreUnsettled, AreWeights, HasSizes, IsElsewhere, IsFresh, IsKept, IsMarked, IsPlanning, IsUnsettled, Kept, is_moving, is_open, is_settled, net_in, part_at, sum_below, weight_left}
