use Rattle.std.proofs.Common.{◌∙◌, ◌+◌, ℕ, List, ◌∷◌, drop, ap, sym, subst}
use Rattle.reo_trace.specs.declared.line.RoundLine.{RoundLine}
use Rattle.reo_trace_reader.specs.Fronts.{NoRound}
use Rattle.reo_trace_reader.specs.Given.{lines_given}
use Rattle.reo_trace_reader.specs.Streams.{AreLeft}
use Rattle.reo_trace_reader.proofs.Streams.{left_some, left_none}
use Rattle.reo_trace_reader.proofs.trace_lines.TraceLines.next.Goals as goal

pub invariant_of-self : goal.invariant_of-self
invariant_of-self c =
    let next = rw c.in-Ok-Some.field-0-is at c.in-Ok-Some.ensures in
    let more = left_some c.self.inside.ports.now.list c.self.inside.number c.self.inside.left.now c.next_round.new.reader c.in-Ok-Some.line (lines_given c.self.inside.lines) c.self.invariant next.0 (sym c.new-ahead.ensures ∙ next.1) in
    subst (λ (lines : List RoundLine). AreLeft c.self.inside.ports.now.list (c.self.inside.number + 1) c.left-self-inside.result.now lines) (sym c.rest-self-inside.ensures)
    (subst (λ (text : List ℕ). AreLeft c.self.inside.ports.now.list (c.self.inside.number + 1) text (drop 1 (lines_given c.self.inside.lines))) (sym c.left-self-inside.ensures) more.1)

pub returns-in-Ok-Some : goal.returns-in-Ok-Some
returns-in-Ok-Some c =
    let next = rw c.in-Ok-Some.field-0-is at c.in-Ok-Some.ensures in
    let more = left_some c.self.inside.ports.now.list c.self.inside.number c.self.inside.left.now c.next_round.new.reader c.in-Ok-Some.line (lines_given c.self.inside.lines) c.self.invariant next.0 (sym c.new-ahead.ensures ∙ next.1) in
    sym c.self.view_is ∙ more.0 ∙ ap (λ (lines : List RoundLine). c.in-Ok-Some.line ∷ lines) (sym c.rest-self-inside.ensures)

pub returns-in-Ok-None : goal.returns-in-Ok-None
returns-in-Ok-None c =
    let next = rw c.in-Ok-None.field-0-is at c.in-Ok-None.ensures in
    let none = left_none c.self.inside.ports.now.list c.self.inside.number c.self.inside.left.now (lines_given c.self.inside.lines) c.self.invariant (subst (NoRound c.self.inside.ports.now.list c.self.inside.number) c.new-ahead.ensures next.0) in
    (sym c.self.view_is ∙ none, sym c.self.view_is ∙ none)
