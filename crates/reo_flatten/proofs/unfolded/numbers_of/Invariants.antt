-- The names so far.
use Rattle.std.proofs.Common.{◌≡◌, take}
use Rattle.reo_flatten.proofs.unfolded.numbers_of.Given as goal

abbrev pub invariant-loop-node : goal.invariant-loop-node
invariant-loop-node l = l.names ≡ take l.node-index l.nodes
