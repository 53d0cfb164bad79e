use Rattle.std.proofs.Common.{◌≤◌, ◌∙◌, Err, length, ap, arith}
use Rattle.reo_values.specs.declared.value.Value.TheVariants as values
use Rattle.reo_values.proofs.Again.{text_parts, text_none, reads_err}
use Rattle.reo_values.proofs.reading.text_item.Goals as goal
use Rattle.reo_values.proofs.reading.text_item.Goals.{else-len-most-via-then-len-most+else-all_plain, else-len-most-via-else-len-most}

pub returns-in_err-bytes-clause-again : goal.returns-in_err-bytes-clause-again
returns-in_err-bytes-clause-again c item rest h ends e =
    reads_err c.from_residual.result c.in_err-bytes.field-0.0 _ item rest c.from_residual.ensures
    (λ fault. text_none _ _ (c.in_err-bytes.ensures.none (ap Err fault)) item rest h e)

pub returns-in_ok-text-clause-again : goal.returns-in_ok-text-clause-again
returns-in_ok-text-clause-again c item rest h ends e =
    let parts = text_parts c.args.most c.args.reader.now c.quoted_bytes.new.reader c.in_ok-bytes.bytes c.in_ok-bytes.ensures.found item rest h e in
    (ap values.Text c.in_ok-text.ensures ∙ parts.0, parts.1)

pub returns-else-len-most-clause-again : goal.returns-else-len-most-clause-again
returns-else-len-most-clause-again c item rest h ends e =
    let parts = text_parts c.args.most c.args.reader.now c.quoted_bytes.new.reader c.in_ok-bytes.bytes c.in_ok-bytes.ensures.found item rest h e in
    elim c.else-len-most.branch [
      | else-len-most-via-then-len-most+else-all_plain w ↦ cc (w.all_plain.ensures.1 (rw w.as_slice.ensures parts.3), w.if-all_plain.false)
      | else-len-most-via-else-len-most w ↦ let short : length c.in_ok-bytes.bytes ≤ c.args.most = parts.2 in omega (arith, w.if-len-most.false, c.len.ensures)
    ]
