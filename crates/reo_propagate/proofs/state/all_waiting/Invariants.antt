use Rattle.std.proofs.Common.{◌≡◌, true, replicate}
use Rattle.reo_propagate.proofs.state.all_waiting.Given as goal

abbrev pub invariant-loop-index : goal.invariant-loop-index
invariant-loop-index l = l.waits ≡ replicate l._index true
