use Rattle.std.proofs.Common.{◌≡◌, ◌+◌, length}
use Rattle.reo_reach.specs.Supplied.{items_at}
use Rattle.reo_search_tables.specs.Renewing.{AreRightAt, StaysBesides}
use Rattle.reo_search_tables.proofs.values.renew_values.Given as goal

-- The values of the joints so far have their flags.
abbrev pub invariant-loop-joint : goal.invariant-loop-joint
invariant-loop-joint l = record {
  stays : StaysBesides l.joints l.initial.flags l.flags;
  right : AreRightAt l.joints l.joint-index (λ j row. length row ≡ length (items_at l.supply j) + 4) l.flags;
}
