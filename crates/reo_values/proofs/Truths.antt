-- Laws of truth values that several crates use.
use Rattle.std.proofs.Common.{refl, true, ◌&&◌, Bool, ◌≡◌, false, not, ◌||◌, arith}
use Rattle.std.specs.Prelude.{◌||◌}
use Rattle.std.specs.Bool.{Decides}
use Rattle.std.proofs.lemmas.Bool.Decides.{nat_tests}

pub if_then : (a b : Bool) → (not a || b) ≡ true → a ≡ true → b ≡ true
if_then true b h e = h
if_then false b h e = cc

pub both_decided : (a b : Bool) (P Q : Type 0) → Decides a P → Decides b Q → Decides (a && b) (P × Q)
both_decided true b P Q p q = (λ h. (p.0 refl, q.0 h), λ h. q.1 h.1)
both_decided false b P Q p q = (λ h. absurd (cc), λ h. let g = p.1 h.0 in absurd (cc))

pub and_or_left : (a b c : Bool) → a ≡ true → b ≡ false → a && (not b || c) ≡ true
and_or_left a b c h e = grind (arith, nat_tests)

pub and_or_right : (a b c : Bool) → a ≡ true → c ≡ true → a && (not b || c) ≡ true
and_or_right a b c h e = grind (arith, nat_tests)
