use Rattle.std.proofs.Common.{◌∙◌, [], sym, append-nil}
use Rattle.reo_trace.specs.EndingText.{ending_text}
use Rattle.reo_trace_reader.proofs.LineTexts.{not_done}
use Rattle.reo_trace_reader.proofs.Steps.{form_none}
use Rattle.reo_trace_reader.proofs.reading.last_line.Goals as goal

pub returns-in_default : goal.returns-in_default
returns-in_default c x h e =
    form_none c.in_default.field-0 c.ended.new.reader x [] c.in_default.ensures.fault
    (c.in_default.ensures.again x [] h tt (c.new-reader.ensures ∙ e ∙ sym (append-nil (ending_text x))))

pub returns-else-is_done : goal.returns-else-is_done
returns-else-is_done c x h e =
    let found = c.in-Ok.ensures.again x [] h tt (c.new-reader.ensures ∙ e ∙ sym (append-nil (ending_text x))) in
    not_done c.ended.new.reader c.is_done.result c.is_done.ensures c.if-is_done.false found.1
