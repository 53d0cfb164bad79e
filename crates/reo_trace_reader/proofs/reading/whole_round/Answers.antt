use Rattle.std.proofs.Common.{◌∙◌, [], sym}
use Rattle.reo_values.proofs.Faults.{same_fault}
use Rattle.reo_trace_reader.proofs.LineTexts.{round_whole, round_is, done_nil, not_done}
use Rattle.reo_trace_reader.proofs.Steps.{form_none}
use Rattle.reo_trace_reader.proofs.reading.whole_round.Goals as goal

pub returns-in_err-found-clause-none : goal.returns-in_err-found-clause-none
returns-in_err-found-clause-none c failed x h =
    form_none c.in_err-found.field-0.0 c.round.new.reader x [] (same_fault c.from_residual.result c.in_err-found.field-0.0 _ c.from_residual.ensures failed)
    (c.in_err-found.ensures.again x [] h.fits tt (c.new-reader.ensures ∙ round_whole c.args.ports.now.list c.args.line.now x h))

pub returns-then-is_done-clause-found : goal.returns-then-is_done-clause-found
returns-then-is_done-clause-found c =
    round_is c.args.ports.now.list c.args.line.now c.round.new.reader c.in_ok-found.found c.in_ok-found.ensures.stood.0 (sym c.new-reader.ensures ∙ c.in_ok-found.ensures.stood.1)
    (done_nil c.round.new.reader c.is_done.result c.is_done.ensures c.if-is_done.true)

pub returns-else-is_done-clause-none : goal.returns-else-is_done-clause-none
returns-else-is_done-clause-none c failed x h =
    let found = c.in_ok-found.ensures.again x [] h.fits tt (c.new-reader.ensures ∙ round_whole c.args.ports.now.list c.args.line.now x h) in
    not_done c.round.new.reader c.is_done.result c.is_done.ensures c.if-is_done.false found.1
