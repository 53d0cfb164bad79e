use Rattle.reo_net_base.specs.Net.{net_of}
use Rattle.reo_refute_parts.proofs.places.PlaceLemmas.{LeadingFrom}
use Rattle.reo_refute_parts.proofs.places.places.leading_places.Given as goal

-- The places so far, with those of the sides that are left, are those of all sides.
abbrev pub invariant-loop-side : goal.invariant-loop-side
invariant-loop-side g l = LeadingFrom (net_of g.P.Primitive.behaviour l.circuit) l.places l.side
