use Rattle.std.proofs.Common.{length}
use Rattle.reo_trace_reader.proofs.EntryRows.{AreRead}
use Rattle.reo_trace_reader.proofs.cells.entries.Given as goal

abbrev pub invariant-loop-reader : goal.invariant-loop-reader
invariant-loop-reader l = AreRead l.fn.reader l.made l.reader

abbrev pub decreases-loop-reader : goal.decreases-loop-reader
decreases-loop-reader l = length l.reader
