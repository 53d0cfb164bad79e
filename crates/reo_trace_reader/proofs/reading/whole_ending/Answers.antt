use Rattle.std.proofs.Common.{◌∙◌, [], sym}
use Rattle.reo_trace_reader.proofs.LineTexts.{ending_whole, ending_is, done_nil, not_done}
use Rattle.reo_trace_reader.proofs.Steps.{form_none}
use Rattle.reo_trace_reader.proofs.reading.whole_ending.Goals as goal

pub returns-in_default : goal.returns-in_default
returns-in_default c x h =
    form_none c.in_default.field-0 c.ending.new.reader x [] c.in_default.ensures.fault
    (c.in_default.ensures.again x [] h.fits tt (c.new-reader.ensures ∙ ending_whole c.args.line.now x h))

pub returns-then-is_done : goal.returns-then-is_done
returns-then-is_done c =
    ending_is c.args.line.now c.ending.new.reader c.in-Ok.ending c.in-Ok.ensures.stood.0 (sym c.new-reader.ensures ∙ c.in-Ok.ensures.stood.1)
    (done_nil c.ending.new.reader c.is_done.result c.is_done.ensures c.if-is_done.true)

pub returns-else-is_done : goal.returns-else-is_done
returns-else-is_done c x h =
    let found = c.in-Ok.ensures.again x [] h.fits tt (c.new-reader.ensures ∙ ending_whole c.args.line.now x h) in
    not_done c.ending.new.reader c.is_done.result c.is_done.ensures c.if-is_done.false found.1
