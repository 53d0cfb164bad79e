-- Lines that proofs alone know.
use Rattle.std.specs.Prelude.{List}
use Rattle.reo_trace.specs.declared.line.RoundLine.{RoundLine}
use Rattle.reo_trace_reader.specs.declared.given.GivenLines.{GivenLines}
use Rattle.reo_trace_reader.specs.declared.given.GivenTrace.{GivenTrace}
use Rattle.reo_trace_reader.specs.declared.texts.trace.Trace.{Trace}

-- The lines, one after another.
abbrev pub lines_given : GivenLines → List RoundLine
lines_given given = given.lines

-- And the trace that they are, with its ending.
abbrev pub trace_given : GivenTrace → Trace
trace_given given = record { rounds = lines_given given.lines; ending = given.ending }
