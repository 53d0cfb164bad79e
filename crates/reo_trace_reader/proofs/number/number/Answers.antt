use Rattle.std.proofs.Common.{◌∙◌, sym}
use Rattle.reo_trace_reader.proofs.Digits.{number_front, decimal_same}
use Rattle.reo_trace_reader.proofs.number.number.Goals as goal

pub returns-in-Some-clause-again : goal.returns-in-Some-clause-again
returns-in-Some-clause-again c n rest h ends e =
    let parts = number_front c.args.reader.now rest c.digits_length-count.result n
    (rw c.left.ensures at c.digits_length-count.ensures.digits) (rw c.left.ensures at c.digits_length-count.ensures.ends) h ends e in
    (decimal_same c.in-Some.number n c.in-Some.ensures.0 h (sym c.in-Some.ensures.1 ∙ c.take.ensures.taken ∙ parts.0), c.take.ensures.left ∙ parts.1)

pub returns-in-None-clause-again : goal.returns-in-None-clause-again
returns-in-None-clause-again c n rest h ends e =
    let parts = number_front c.args.reader.now rest c.digits_length-count.result n
    (rw c.left.ensures at c.digits_length-count.ensures.digits) (rw c.left.ensures at c.digits_length-count.ensures.ends) h ends e in
    c.in-None.ensures n h (c.take.ensures.taken ∙ parts.0)
