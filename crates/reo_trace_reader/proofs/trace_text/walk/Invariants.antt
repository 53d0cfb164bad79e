use Rattle.std.proofs.Common.{length}
use Rattle.reo_trace_reader.specs.Given.{lines_given}
use Rattle.reo_trace_reader.proofs.TraceTexts.{AreRead}
use Rattle.reo_trace_reader.proofs.trace_text.walk.Given as goal

abbrev pub invariant-loop-line : goal.invariant-loop-line
invariant-loop-line l = AreRead l.ports.list l.text (lines_given l.lines) l.number l.reader

abbrev pub decreases-loop-line : goal.decreases-loop-line
decreases-loop-line l = length l.reader
