use Rattle.std.proofs.Common.{arith}
use Rattle.reo_cursor.proofs.Digits.{step-below, digit-at}
use Rattle.reo_command.proofs.NumberLemmas.{ten-digits}
use Rattle.reo_command.proofs.number.value_of.Goals as goal

pub overflow_mul-value : goal.overflow_mul-value
overflow_mul-value c =
    let s = ten-digits c.args.digits.now c.requires.digits c.requires.few in
    let h = step-below c.loop-digit.value c.args.digits.now c.loop-digit.digit-index 0 c.loop-digit-test.true c.loop-digit.invariant s in omega arith

pub overflow_sub-value : goal.overflow_sub-value
overflow_sub-value c = digit-at c.args.digits.now c.loop-digit.digit-index 0 c.requires.digits c.loop-digit-test.true

pub overflow_add-value : goal.overflow_add-value
overflow_add-value c =
    let s = ten-digits c.args.digits.now c.requires.digits c.requires.few in
    let h = step-below c.loop-digit.value c.args.digits.now c.loop-digit.digit-index 0 c.loop-digit-test.true c.loop-digit.invariant s in omega arith
