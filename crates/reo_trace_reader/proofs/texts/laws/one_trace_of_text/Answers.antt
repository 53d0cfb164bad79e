use Rattle.reo_trace_reader.proofs.texts.Traces.{one_trace_of-text}
use Rattle.reo_trace_reader.proofs.texts.laws.one_trace_of_text.Goals as goal

pub returns : goal.returns
returns c = one_trace_of-text
