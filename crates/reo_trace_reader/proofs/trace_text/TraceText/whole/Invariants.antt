use Rattle.std.proofs.Common.{◌≡◌, ◌++◌, length}
use Rattle.reo_trace_reader.proofs.trace_text.TraceText.whole.Given as goal

abbrev pub invariant-loop-rounds : goal.invariant-loop-rounds
invariant-loop-rounds l = l.rounds ++ l.lines ≡ l.self.rounds

abbrev pub decreases-loop-rounds : goal.decreases-loop-rounds
decreases-loop-rounds l = length l.lines
