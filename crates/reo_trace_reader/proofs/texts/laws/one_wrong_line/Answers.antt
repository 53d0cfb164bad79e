use Rattle.reo_trace_reader.proofs.texts.Traces.{one_wrong_line-of_text}
use Rattle.reo_trace_reader.proofs.texts.laws.one_wrong_line.Goals as goal

pub returns : goal.returns
returns c = one_wrong_line-of_text
