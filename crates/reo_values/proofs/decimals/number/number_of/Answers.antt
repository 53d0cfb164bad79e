use Rattle.std.proofs.Common.{arith, subst, sym, ap, ◌∙◌}
use Rattle.std.specs.Str.Parse.{digits_value}
use Rattle.reo_values.specs.decimals.Digits.{HasFewDigits}
use Rattle.reo_values.proofs.decimals.Digits.{decimal_few, few_decimal, decimal_value}
use Rattle.reo_values.proofs.decimals.number.number_of.Goals as goal

pub returns-then-not-has_few_digits : goal.returns-then-not-has_few_digits
returns-then-not-has_few_digits c n h e = c.has_few_digits.ensures.no c.if-not-has_few_digits.true (subst HasFewDigits (sym e) (decimal_few n h))

pub returns-then-value : goal.returns-then-value
returns-then-value c =
    (c.if-value.true, few_decimal c.args.digits.now c.value_of-value.result c.requires (c.has_few_digits.ensures.yes c.if-not-has_few_digits.false) c.value_of-value.ensures c.if-value.true)

pub returns-else-value : goal.returns-else-value
returns-else-value c n h e =
    let same = c.value_of-value.ensures ∙ ap (λ l. digits_value 10 l) e ∙ decimal_value n h in
    omega arith
