use Rattle.std.proofs.Common.{length}
use Rattle.reo_net_base.specs.Net.{net_of}
use Rattle.reo_net_circuit.specs.found_ends.Noted.{HasPlaces, AreNoted}
use Rattle.reo_net_circuit.proofs.found_ends.noted.note_all.Given as goal

-- The joints so far are noted.
abbrev pub invariant-loop-index : goal.invariant-loop-index
invariant-loop-index g l = record {
  places : HasPlaces (net_of g.P.Primitive.behaviour l.circuit).primitives (length (net_of g.P.Primitive.behaviour l.circuit).primitives) l.table.items;
  noted : AreNoted (net_of g.P.Primitive.behaviour l.circuit) l.index l.table.items;
}
