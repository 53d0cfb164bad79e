use Rattle.std.proofs.Common.{◌∙◌, [], sym, append-nil, arith}
use Rattle.std.proofs.lemmas.Grind.{common_steps}
use Rattle.reo_values.specs.ItemText.{text_of}
use Rattle.reo_values.proofs.Again.{reads_none}
use Rattle.reo_values.proofs.Faults.{same_fault}
use Rattle.reo_values.proofs.reading.read_value.Goals as goal

pub returns-in_err-found-clause-none : goal.returns-in_err-found-clause-none
returns-in_err-found-clause-none c failed item h e =
    reads_none c.in_err-found.field-0.0 _ item [] (c.in_err-found.ensures.again item [] h tt (c.new-reader.ensures ∙ e ∙ sym (append-nil (text_of item c.args.kindred.now))))
    (same_fault c.from_residual.result c.in_err-found.field-0.0 _ c.from_residual.ensures failed)

pub returns-else-is_done-clause-none : goal.returns-else-is_done-clause-none
returns-else-is_done-clause-none c failed item h e =
    let again = c.in_ok-found.ensures.again item [] h tt (c.new-reader.ensures ∙ e ∙ sym (append-nil (text_of item c.args.kindred.now))) in
    let left = again.1 in
    grind (arith, common_steps, left, c.is_done.ensures, c.if-is_done.false)
