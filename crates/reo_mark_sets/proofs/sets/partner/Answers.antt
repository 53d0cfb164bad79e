use Rattle.std.proofs.Common.{◌≡◌, ℕ, ◌%◌, arith}
use Rattle.std.proofs.lemmas.Bool.Decides.{nat_tests}
use Rattle.std.proofs.lemmas.Nat.{and_mask}
use Rattle.std.specs.Int.Bits.{bit_and, bit_xor, xor_add_and}
use Rattle.reo_mark_sets.specs.PlainMarks.{partner}
use Rattle.reo_mark_sets.proofs.sets.partner.Goals as goal

partner_is : (place : ℕ) → bit_xor place 1 ≡ partner place
partner_is place =
    let sum = xor_add_and place 1 in
    let low : bit_and place 1 ≡ place % 2 = and_mask place 1 in
    grind (arith, nat_tests, sum, low)

pub returns : goal.returns
returns c = partner_is c.args.place
