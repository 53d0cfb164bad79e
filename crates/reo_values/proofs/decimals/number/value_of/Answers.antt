use Rattle.std.proofs.Common.{arith, ◌∙◌, ap, ◌+◌, ◌*◌, ℕ}
use Rattle.reo_values.proofs.decimals.Digits.{value_more}
use Rattle.reo_values.proofs.decimals.number.value_of.Goals as goal

pub overflow_mul-value : goal.overflow_mul-value
overflow_mul-value c =
    let more = value_more c.args.digits.now c.loop-digit.digit-index c.loop-digit.value c.requires.digits c.loop-digit-test.true c.requires.few c.loop-digit.invariant in
    omega arith

pub overflow_add-value : goal.overflow_add-value
overflow_add-value c =
    let more = value_more c.args.digits.now c.loop-digit.digit-index c.loop-digit.value c.requires.digits c.loop-digit-test.true c.requires.few c.loop-digit.invariant in
    omega arith

pub loop-digit-preserved : goal.loop-digit-preserved
loop-digit-preserved c =
    let more = value_more c.args.digits.now c.loop-digit.digit-index c.loop-digit.value c.requires.digits c.loop-digit-test.true c.requires.few c.loop-digit.invariant in
    ap (λ (d : ℕ). c.loop-digit.value * 10 + d) c.from.ensures ∙ more.0
