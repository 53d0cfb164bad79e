use Rattle.reo_net_base.specs.Net.{net_of}
use Rattle.reo_refute_parts.proofs.places.AllowedLemmas.{AreAll}
use Rattle.reo_refute_parts.proofs.places.allowed.AllowedRows.new.Given as goal

-- All rows of the sides so far are marked.
abbrev pub invariant-loop-side : goal.invariant-loop-side
invariant-loop-side g l = AreAll (net_of g.P.Primitive.behaviour l.circuit) l.side l.agreeing
