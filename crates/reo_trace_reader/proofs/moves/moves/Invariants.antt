use Rattle.std.proofs.Common.{length}
use Rattle.reo_trace_reader.proofs.MoveRows.{AreRead}
use Rattle.reo_trace_reader.proofs.moves.moves.Given as goal

abbrev pub invariant-loop-alloc : goal.invariant-loop-alloc
invariant-loop-alloc l = AreRead l.ports.list l.fn.reader l.made l.from l.reader

abbrev pub decreases-loop-alloc : goal.decreases-loop-alloc
decreases-loop-alloc l = length l.reader
