-- The ends so far.
use Rattle.std.proofs.Common.{take}
use Rattle.reo_flatten.specs.NodeEnds.{placed_with, AreEnds}
use Rattle.reo_flatten.proofs.ends.ends_at_nodes.Given as goal

abbrev pub invariant-loop-primitive : goal.invariant-loop-primitive
invariant-loop-primitive l = AreEnds l.names (take l.primitive (placed_with l.kinds l.ends)) l.made
