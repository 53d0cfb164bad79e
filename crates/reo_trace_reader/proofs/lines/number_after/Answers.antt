use Rattle.std.proofs.Common.{◌∙◌, sym, append_assoc}
use Rattle.std.specs.Fmt.{decimal}
use Rattle.std.proofs.lemmas.List.{append_cancel_left}
use Rattle.reo_trace_reader.proofs.lines.number_after.Goals as goal

pub returns-then-word-clause-again : goal.returns-then-word-clause-again
returns-then-word-clause-again c x rest h ends e =
    c.number.ensures.again x rest h ends
    (append_cancel_left c.args.word.now _ _ (sym (c.word.ensures.taken c.if-word.true) ∙ e ∙ append_assoc c.args.word.now (decimal x) rest))
