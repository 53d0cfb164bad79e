use Rattle.reo_trace_reader.proofs.RoundTexts.{flows_of, round_parts, round_stood}
use Rattle.reo_trace_reader.proofs.Steps.{passes}
use Rattle.reo_trace_reader.proofs.lines.round.Goals as goal

pub returns-in_err-round-clause-again : goal.returns-in_err-round-clause-again
returns-in_err-round-clause-again c x rest h ends e =
    let parts = round_parts c.args.ports.now.list c.args.reader.now x rest h e in
    passes c.from_residual.result c.in_err-round.field-0.0 _ x.round _ _ x rest (c.in_err-round.ensures.again x.round _ h.small tt parts.0) c.from_residual.ensures

pub returns-in_err-flows-clause-again : goal.returns-in_err-flows-clause-again
returns-in_err-flows-clause-again c x rest h ends e =
    let parts = round_parts c.args.ports.now.list c.args.reader.now x rest h e in
    let first = c.in_ok-round.ensures.again x.round _ h.small tt parts.0 in
    passes c.from_residual-in_err-flows.result c.in_err-flows.field-0.0 _ (flows_of x) _ _ x rest (c.in_err-flows.ensures.again (flows_of x) _ parts.1 tt first.1)
    c.from_residual-in_err-flows.ensures

pub returns-in_err-entries-clause-again : goal.returns-in_err-entries-clause-again
returns-in_err-entries-clause-again c x rest h ends e =
    let parts = round_parts c.args.ports.now.list c.args.reader.now x rest h e in
    let first = c.in_ok-round.ensures.again x.round _ h.small tt parts.0 in
    let second = c.in_ok-flows.ensures.again (flows_of x) _ parts.1 tt first.1 in
    passes c.from_residual-in_err-entries.result c.in_err-entries.field-0.0 _ x.entries rest _ x rest (c.in_err-entries.ensures.again x.entries rest h.entries ends second.1)
    c.from_residual-in_err-entries.ensures

pub returns-clause-stood : goal.returns-clause-stood
returns-clause-stood c =
    round_stood c.args.ports.now.list c.args.reader.now c.heading.new.reader c.read_flows.new.reader c.entries.new.reader
    (record { round = c.in_ok-round.round; idle = c.in_ok-flows.flows.idle; moves = c.in_ok-flows.flows.moves; entries = c.in_ok-entries.entries })
    c.in_ok-round.ensures.stood.0 c.in_ok-flows.ensures.stood.0 c.in_ok-entries.ensures.stood.0
    c.in_ok-round.ensures.stood.1 c.in_ok-flows.ensures.stood.1 c.in_ok-entries.ensures.stood.1

pub returns-clause-again : goal.returns-clause-again
returns-clause-again c x rest h ends e =
    let parts = round_parts c.args.ports.now.list c.args.reader.now x rest h e in
    let first = c.in_ok-round.ensures.again x.round _ h.small tt parts.0 in
    let second = c.in_ok-flows.ensures.again (flows_of x) _ parts.1 tt first.1 in
    let last = c.in_ok-entries.ensures.again x.entries rest h.entries ends second.1 in
    ((λ i. record { round = first.0 i; idle = (second.0 i).idle; moves = (second.0 i).moves; entries = last.0 i }), last.1)
