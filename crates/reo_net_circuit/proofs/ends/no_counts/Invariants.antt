use Rattle.std.proofs.Common.{◌≡◌, map, take}
use Rattle.reo_net_circuit.proofs.CountLemmas.{zero_counts}
use Rattle.reo_net_circuit.proofs.ends.no_counts.Given as goal

abbrev pub invariant-loop-index : goal.invariant-loop-index
invariant-loop-index g l = l.counts ≡ zero_counts (take l.index (map g.P.Primitive.behaviour l.primitives))
