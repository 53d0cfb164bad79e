use Rattle.std.proofs.Common.{◌≡◌, length}
use Rattle.reo_net_base.specs.Net.{net_of, row_count}
use Rattle.reo_side_tables.specs.Marks.{side_in}
use Rattle.reo_search_tables.specs.Renewing.{AreRightAt, StaysBesides}
use Rattle.reo_search_tables.proofs.notes.renew_live.Given as goal

-- The rows of the sides so far have their flags.
abbrev pub invariant-loop-side : goal.invariant-loop-side
invariant-loop-side g l = record {
  stays : StaysBesides l.sides l.initial.live l.live;
  right : AreRightAt l.sides l.side-index (λ s row. length row ≡ row_count (side_in (net_of g.P.Primitive.behaviour l.circuit) s)) l.live;
}
