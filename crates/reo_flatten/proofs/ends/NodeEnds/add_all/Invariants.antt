-- The ends so far.
use Rattle.std.proofs.Common.{take}
use Rattle.reo_flatten.specs.NodeEnds.{AddsEnds}
use Rattle.reo_flatten.proofs.ends.NodeEnds.add_all.Given as goal

abbrev pub invariant-loop-end : goal.invariant-loop-end
invariant-loop-end l = AddsEnds l.names l.primitive l.kind (take l.end l.at) l.initial.self l.self
