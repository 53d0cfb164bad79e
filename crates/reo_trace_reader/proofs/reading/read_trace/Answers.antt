use Rattle.std.proofs.Common.{◌∙◌, subst, sym, refl}
use Rattle.reo_trace_reader.specs.Fronts.{NoEnding}
use Rattle.reo_trace_reader.proofs.TraceTexts.{more_read, round_longer, trace_is, wrong_is}
use Rattle.reo_trace_reader.proofs.reading.read_trace.Goals as goal

pub loop-rounds-smaller : goal.loop-rounds-smaller
loop-rounds-smaller c =
    let line = rw c.in-Some.is at c.in_ok-line.ensures in
    round_longer c.args.ports.now.list c.loop-rounds.reader c.next_round.new.reader c.in-Some.line line.1

pub loop-rounds-preserved : goal.loop-rounds-preserved
loop-rounds-preserved c =
    let line = rw c.in-Some.is at c.in_ok-line.ensures in
    more_read c.args.ports.now.list c.args.text.now c.loop-rounds.rounds c.loop-rounds.number c.loop-rounds.reader c.next_round.new.reader c.in-Some.line c.push.new.self _
    c.loop-rounds.invariant line.0 line.1 c.in_ok-push.ensures.ok refl

pub returns-in-Some-last_line-clause-only : goal.returns-in-Some-last_line-clause-only
returns-in-Some-last_line-clause-only c answer h =
    let none = rw c.in_default.is at c.in_ok-line.ensures in
    c.one_trace_answer.ensures c.args.ports.now.list c.args.text.now _ answer c.requires
    (trace_is c.args.ports.now.list c.args.text.now c.loop-rounds.rounds c.loop-rounds.number c.loop-rounds.reader c.in-Some-last_line.ending c.loop-rounds.invariant
    c.in-Some-last_line.ensures.0 (sym (c.left.ensures ∙ none.1) ∙ c.in-Some-last_line.ensures.1)) h

pub returns-in-None-clause-only : goal.returns-in-None-clause-only
returns-in-None-clause-only c answer h =
    let none = rw c.in_default.is at c.in_ok-line.ensures in
    c.one_trace_answer.ensures c.args.ports.now.list c.args.text.now _ answer c.requires
    (wrong_is c.args.ports.now.list c.args.text.now c.loop-rounds.rounds c.loop-rounds.number c.loop-rounds.reader c.loop-rounds.invariant none.0
    (subst NoEnding (c.left.ensures ∙ none.1) c.in-None.ensures)) h
