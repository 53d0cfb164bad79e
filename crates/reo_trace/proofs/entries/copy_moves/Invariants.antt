use Rattle.std.proofs.Common.{◌≡◌, take}
use Rattle.reo_trace.proofs.entries.copy_moves.Given as goal

abbrev pub invariant-loop-one : goal.invariant-loop-one
invariant-loop-one l = l.made ≡ take l.one-index l.moves
