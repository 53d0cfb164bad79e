use Rattle.reo_trace_reader.proofs.texts.Answering.{one_answer_of-text}
use Rattle.reo_trace_reader.proofs.texts.laws.one_trace_answer.Goals as goal

pub returns : goal.returns
returns c = one_answer_of-text
