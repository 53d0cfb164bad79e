use Rattle.std.proofs.Common.{length}
use Rattle.reo_trace_reader.proofs.TraceTexts.{AreRead}
use Rattle.reo_trace_reader.proofs.reading.read_trace.Given as goal

abbrev pub invariant-loop-rounds : goal.invariant-loop-rounds
invariant-loop-rounds l = AreRead l.ports.list l.text l.rounds l.number l.reader

abbrev pub decreases-loop-rounds : goal.decreases-loop-rounds
decreases-loop-rounds l = length l.reader
