-- What is planned of parts, for crates that stand on plans of parts.
pub use Rattle.reo_planning.specs.Faults.{IsSearchFault}
pub use Rattle.reo_planning.specs.Keeping.{AllServe, HasSizes, IsFresh, IsKept, is_moving, is_open, is_settled, serves}
pub use Rattle.reo_planning.specs.Planned.{ArePlanned, AreWeights, IsPartPlanned, sum_below, weight_left}
pub use Rattle.reo_planning.specs.Unsettling.{AreApart, AreBetweenUnsettled, AreFewer, AreMarkedUnsettled, AreMovingUnsettled, AreUnsettled, IsElsewhere, IsMarked, IsUnsettled, part_at}
pub use Rattle.reo_planning.specs.declared.kept.Kept.{Kept}
pub use Rattle.reo_planning.specs.PartOf.{ArePlannedIn, IsFaultAt, IsPartOf, IsPlannedAt, IsPlanning, in_part, net_at, net_in}
pub use Rattle.reo_planning.specs.declared.part_of.PartOf.{PartOf}
pub use Rattle.reo_planning.specs.declared.part_of.Planning.{Planning}
