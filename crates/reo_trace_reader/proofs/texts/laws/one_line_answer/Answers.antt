use Rattle.reo_trace_reader.proofs.texts.Answering.{one_line_answer-of_text}
use Rattle.reo_trace_reader.proofs.texts.laws.one_line_answer.Goals as goal

pub returns : goal.returns
returns c = one_line_answer-of_text
