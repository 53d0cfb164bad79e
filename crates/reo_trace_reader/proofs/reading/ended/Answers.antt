use Rattle.std.proofs.Common.{◌∙◌, ◌∷◌, refl, sym}
use Rattle.std.specs.Prelude.{codes}
use Rattle.std.proofs.lemmas.List.{append_cancel_left}
use Rattle.reo_trace_reader.proofs.LineTexts.{ending_then, ending_of}
use Rattle.reo_trace_reader.proofs.Steps.{passes}
use Rattle.reo_trace_reader.proofs.reading.ended.Goals as goal

pub returns-in_err-ending-clause-again : goal.returns-in_err-ending-clause-again
returns-in_err-ending-clause-again c x rest h ends e =
    passes c.from_residual.result c.in_err-ending.field-0.0 _ x (10 ∷ rest) _ x rest
    (c.in_err-ending.ensures.again x (10 ∷ rest) h refl (ending_then c.args.reader.now x rest e)) c.from_residual.ensures

pub returns-then-word-clause-stood : goal.returns-then-word-clause-stood
returns-then-word-clause-stood c = (
  c.in_ok-ending.ensures.stood.0,
  ending_of c.args.reader.now c.ending.new.reader c.word.new.self c.in_ok-ending.ending c.in_ok-ending.ensures.stood.1 (c.word.ensures.taken c.if-word.true),
)

pub returns-then-word-clause-again : goal.returns-then-word-clause-again
returns-then-word-clause-again c x rest h ends e =
    let found = c.in_ok-ending.ensures.again x (10 ∷ rest) h refl (ending_then c.args.reader.now x rest e) in
    (found.0, append_cancel_left (codes "\n") _ _ (sym (c.word.ensures.taken c.if-word.true) ∙ found.1))

pub returns-else-word-clause-again : goal.returns-else-word-clause-again
returns-else-word-clause-again c x rest h ends e =
    let found = c.in_ok-ending.ensures.again x (10 ∷ rest) h refl (ending_then c.args.reader.now x rest e) in
    c.word.ensures.none c.if-word.false rest found.1
