use Rattle.std.proofs.Common.{◌≡◌, ◌∙◌, ℤ, pos, negsuc, true, ◌+◌, [], ◌∷◌, w64, nat_abs, ap, sym, rules, arith}
use lib.Signed.{le_z, lt_z}
use Rattle.std.specs.Fmt.{signed_decimal}
use Rattle.std.proofs.Math.Facts.{to_z-of_z}
use Rattle.std.proofs.lemmas.Bool.Decides.{nat_tests}
use Rattle.std.proofs.lemmas.Fmt.{decimal_digit}
use Rattle.reo_trace.proofs.text.append_int.Goals as goal

-- A number below ten is one digit.
one_digit : (z same : ℤ) → same ≡ z → le_z (pos 0) same ≡ true → lt_z same (pos 10) ≡ true → (48 + nat_abs same) ∷ [] ≡ signed_decimal z
one_digit z (pos n) is least few = sym (decimal_digit n (grind (arith, nat_tests, few))) ∙ ap signed_decimal is
one_digit z (negsuc n) is least few = absurd cc

pub returns-then-number-lt10 : goal.returns-then-number-lt10
returns-then-number-lt10 c =
    rw (← one_digit c.args.number _ (to_z-of_z {w = w64} (search rules)) c.if-number-ge0.true c.if-number-lt10.true) c.push.ensures.ok
