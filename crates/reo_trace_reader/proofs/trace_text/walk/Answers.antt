use Rattle.std.proofs.Common.{◌∙◌, subst, sym, refl}
use Rattle.reo_trace_reader.specs.Fronts.{NoEnding}
use Rattle.reo_trace_reader.specs.Given.{lines_given}
use Rattle.reo_trace_reader.proofs.TraceTexts.{more_read, round_longer, trace_is, wrong_is}
use Rattle.reo_trace_reader.proofs.trace_text.walk.Goals as goal

pub loop-line-smaller : goal.loop-line-smaller
loop-line-smaller c =
    let line = rw c.in-Some.is at c.in_ok-line.ensures in
    round_longer c.args.ports.now.list c.loop-line.reader c.next_round.new.reader c.in-Some.line line.1

pub loop-line-preserved : goal.loop-line-preserved
loop-line-preserved c =
    let line = rw c.in-Some.is at c.in_ok-line.ensures in
    more_read c.args.ports.now.list c.args.text.now (lines_given c.loop-line.lines) c.loop-line.number c.loop-line.reader c.next_round.new.reader c.in-Some.line _ _
    c.loop-line.invariant line.0 line.1 c.then-lines.ensures refl

pub returns-in-Some-last_line-clause-found : goal.returns-in-Some-last_line-clause-found
returns-in-Some-last_line-clause-found c =
    let none = rw c.in_default.is at c.in_ok-line.ensures in
    trace_is c.args.ports.now.list c.args.text.now (lines_given c.loop-line.lines) c.loop-line.number c.loop-line.reader c.in-Some-last_line.ending c.loop-line.invariant
    c.in-Some-last_line.ensures.0 (sym (c.left.ensures ∙ none.1) ∙ c.in-Some-last_line.ensures.1)

pub returns-in-None-clause-fault : goal.returns-in-None-clause-fault
returns-in-None-clause-fault c =
    let none = rw c.in_default.is at c.in_ok-line.ensures in
    wrong_is c.args.ports.now.list c.args.text.now (lines_given c.loop-line.lines) c.loop-line.number c.loop-line.reader c.loop-line.invariant none.0
    (subst NoEnding (c.left.ensures ∙ none.1) c.in-None.ensures)
