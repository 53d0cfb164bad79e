use Rattle.reo_trace_reader.proofs.texts.Traces.{trace_no-wrong_line}
use Rattle.reo_trace_reader.proofs.texts.laws.trace_has_no_wrong_line.Goals as goal

pub returns : goal.returns
returns c = trace_no-wrong_line
