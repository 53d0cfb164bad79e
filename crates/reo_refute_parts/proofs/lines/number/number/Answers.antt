use Rattle.std.proofs.Common.{◌++◌, ◌∙◌, ℕ, List, ap, sym, subst, drop}
use Rattle.std.specs.Fmt.{decimal}
use Rattle.reo_values.specs.decimals.Digits.{NoDigit}
use Rattle.reo_values.proofs.decimals.Digits.{number_front, number_back}
use Rattle.reo_refute_parts.proofs.lines.number.number.Goals as goal

pub returns-in-Some : goal.returns-in-Some
returns-in-Some c =
    let ends : NoDigit (drop c.digits_length-count.result c.args.reader.now) = rw c.left.ensures at c.digits_length-count.ensures.ends in (
      c.in-Some.ensures.0,
      subst NoDigit (sym c.take.ensures.left) ends,
      number_back c.args.reader.now c.digits_length-count.result c.in-Some.number (sym c.take.ensures.taken ∙ c.in-Some.ensures.1)
          ∙ ap (λ (l : List ℕ). decimal c.in-Some.number ++ l) (sym c.take.ensures.left),
    )

pub returns-in-None : goal.returns-in-None
returns-in-None c n rest h ends e =
    let parts = number_front c.args.reader.now rest c.digits_length-count.result n
    (rw c.left.ensures at c.digits_length-count.ensures.digits) (rw c.left.ensures at c.digits_length-count.ensures.ends) h ends e in
    c.in-None.ensures n h (c.take.ensures.taken ∙ parts.0)
