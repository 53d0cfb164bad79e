use Rattle.std.proofs.Common.{◌≡◌}
use Rattle.reo_net_base.specs.Net.{net_of}
use Rattle.reo_refute_parts.specs.places.KeyPlaces.{position_of}
use Rattle.reo_refute_parts.proofs.places.MarkLemmas.{AreCleared}
use Rattle.reo_refute_parts.proofs.places.marking.clear_others.Given as goal

-- The rows so far are cleared.
abbrev pub invariant-loop-row : goal.invariant-loop-row
invariant-loop-row g l = AreCleared (λ row. (position_of (net_of g.P.Primitive.behaviour l.circuit) l.turn l.place).number row ≡ l.wanted) l.row l.initial.rows l.rows
