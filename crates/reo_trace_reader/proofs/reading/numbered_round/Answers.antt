use Rattle.std.proofs.Common.{◌∙◌, ◌∷◌, ap, refl, sym, arith}
use Rattle.std.specs.Prelude.{codes}
use Rattle.std.proofs.lemmas.List.{append_cancel_left}
use Rattle.reo_trace.specs.declared.line.RoundLine.{RoundLine}
use Rattle.reo_trace_reader.proofs.LineTexts.{any_line, this_line, round_then, round_of}
use Rattle.reo_trace_reader.proofs.Steps.{passes}
use Rattle.reo_trace_reader.proofs.reading.numbered_round.Goals as goal

pub returns-in_err-line-clause-again : goal.returns-in_err-line-clause-again
returns-in_err-line-clause-again c x rest h ends e =
    passes c.from_residual.result c.in_err-line.field-0.0 _ x (10 ∷ rest) _ x rest
    (c.in_err-line.ensures.again x (10 ∷ rest) (any_line c.args.ports.now.list c.args.number x h) refl (round_then c.args.ports.now.list c.args.reader.now x rest e)) c.from_residual.ensures

pub returns-then-line-number-clause-again : goal.returns-then-line-number-clause-again
returns-then-line-number-clause-again c x rest h ends e =
    let found = c.in_ok-line.ensures.again x (10 ∷ rest) (any_line c.args.ports.now.list c.args.number x h) refl (round_then c.args.ports.now.list c.args.reader.now x rest e) in
    let same = ap (λ (l : RoundLine). l.round) found.0 ∙ h.number_is in
    omega arith

pub returns-then-word-clause-stood : goal.returns-then-word-clause-stood
returns-then-word-clause-stood c = (
  this_line c.args.ports.now.list c.args.number c.in_ok-line.line (omega arith) c.in_ok-line.ensures.stood.0,
  round_of c.args.ports.now.list c.args.reader.now c.round.new.reader c.word.new.self c.in_ok-line.line c.in_ok-line.ensures.stood.1 (c.word.ensures.taken c.if-word.true),
)

pub returns-then-word-clause-again : goal.returns-then-word-clause-again
returns-then-word-clause-again c x rest h ends e =
    let found = c.in_ok-line.ensures.again x (10 ∷ rest) (any_line c.args.ports.now.list c.args.number x h) refl (round_then c.args.ports.now.list c.args.reader.now x rest e) in
    (found.0, append_cancel_left (codes "\n") _ _ (sym (c.word.ensures.taken c.if-word.true) ∙ found.1))

pub returns-else-word-clause-again : goal.returns-else-word-clause-again
returns-else-word-clause-again c x rest h ends e =
    let found = c.in_ok-line.ensures.again x (10 ∷ rest) (any_line c.args.ports.now.list c.args.number x h) refl (round_then c.args.ports.now.list c.args.reader.now x rest e) in
    c.word.ensures.none c.if-word.false rest found.1
