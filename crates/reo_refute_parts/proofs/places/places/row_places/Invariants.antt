use Rattle.reo_net_base.specs.Net.{net_of}
use Rattle.reo_refute_parts.proofs.places.PlaceLemmas.{RowsFrom}
use Rattle.reo_refute_parts.proofs.places.places.row_places.Given as goal

-- The places so far, with those of the sides that are left, are those of all sides.
abbrev pub invariant-loop-side : goal.invariant-loop-side
invariant-loop-side g l = RowsFrom (net_of g.P.Primitive.behaviour l.circuit) l.places l.side
