use Rattle.std.proofs.Common.{◌≡◌, Bool, true, false, not, refl}
use Rattle.reo_refute.proofs.next.going.may_go.Goals as goal

not_off : (b : Bool) → not b ≡ false → b ≡ true
not_off true h = refl
not_off false h = absurd cc

pub returns-clause-stays : goal.returns-clause-stays
returns-clause-stays g c = λ off is. c.in_ok-stays.ensures.stays (not_off c.in_ok-stays.stays off)
