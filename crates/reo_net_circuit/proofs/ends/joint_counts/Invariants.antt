use Rattle.std.proofs.Common.{map, take}
use Rattle.reo_net_circuit.specs.Counts.{AreCounts}
use Rattle.reo_net_circuit.proofs.ends.joint_counts.Given as goal

abbrev pub invariant-loop-index : goal.invariant-loop-index
invariant-loop-index g l = AreCounts (map g.P.Primitive.behaviour l.primitives) (take l.index l.joints) l.counts.items
