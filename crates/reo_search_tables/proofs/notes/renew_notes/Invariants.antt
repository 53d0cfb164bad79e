use Rattle.std.proofs.Common.{◌≡◌, length}
use Rattle.reo_net_base.specs.Net.{net_of}
use Rattle.reo_side_tables.specs.Marks.{groups_in}
use Rattle.reo_search_tables.specs.Renewing.{AreRightAt, StaysBesides}
use Rattle.reo_search_tables.proofs.notes.renew_notes.Given as goal

-- The groups of the sides so far have their notes.
abbrev pub invariant-loop-side : goal.invariant-loop-side
invariant-loop-side g l = record {
  stays : StaysBesides l.sides l.initial.notes l.notes;
  right : AreRightAt l.sides l.side-index (λ s list. length list ≡ groups_in (net_of g.P.Primitive.behaviour l.circuit) s) l.notes;
}
