use Rattle.std.proofs.Common.{◌∙◌, sym}
use Rattle.std.specs.Fmt.{decimal}
use Rattle.std.proofs.Common.{append_assoc}
use Rattle.std.proofs.lemmas.List.{append_cancel_left}
use Rattle.reo_trace_reader.proofs.Begins.{begins_no_digit}
use Rattle.reo_trace_reader.proofs.Steps.{passes}
use Rattle.reo_trace_reader.proofs.lines.number_before.Goals as goal

pub returns-in_err-number-clause-again : goal.returns-in_err-number-clause-again
returns-in_err-number-clause-again c x rest h ends e =
    passes c.from_residual.result c.in_err-number.field-0.0 _ x _ _ x rest
    (c.in_err-number.ensures.again x _ h (begins_no_digit c.args.word.now rest c.requires) (e ∙ append_assoc (decimal x) c.args.word.now rest)) c.from_residual.ensures

pub returns-then-word-clause-again : goal.returns-then-word-clause-again
returns-then-word-clause-again c x rest h ends e =
    let first = c.in_ok-number.ensures.again x _ h (begins_no_digit c.args.word.now rest c.requires) (e ∙ append_assoc (decimal x) c.args.word.now rest) in
    (first.0, append_cancel_left c.args.word.now _ _ (sym (c.word.ensures.taken c.if-word.true) ∙ first.1))

pub returns-else-word-clause-again : goal.returns-else-word-clause-again
returns-else-word-clause-again c x rest h ends e =
    let first = c.in_ok-number.ensures.again x _ h (begins_no_digit c.args.word.now rest c.requires) (e ∙ append_assoc (decimal x) c.args.word.now rest) in
    c.word.ensures.none c.if-word.false rest first.1
