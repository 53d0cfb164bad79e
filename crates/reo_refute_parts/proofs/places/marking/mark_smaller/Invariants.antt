use Rattle.std.proofs.Common.{◌≢◌, ◌<◌, slice_index}
use Rattle.reo_net_base.specs.Net.{net_of}
use Rattle.reo_refute_parts.specs.places.KeyPlaces.{position_of}
use Rattle.reo_refute_parts.specs.places.AllowedRows.{AreMarked}
use Rattle.reo_refute_parts.proofs.places.marking.mark_smaller.Given as goal

-- The rows so far are marked.
abbrev pub invariant-loop-row : goal.invariant-loop-row
invariant-loop-row g l = AreMarked l.row (λ row. (slice_index l.agreeing row ≢ 0) × ((position_of (net_of g.P.Primitive.behaviour l.circuit) l.turn l.place).number row < l.wanted)) l.smaller
