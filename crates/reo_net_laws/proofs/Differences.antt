-- The first difference of two keys.
use Rattle.std.proofs.Common.{◌≡◌, ℕ, zero, suc, ◌<◌, List, [], ◌∷◌, get_or, refl, ap, sym, ◌∙◌, arith}
use Rattle.std.specs.declared.cmp.Ordering.{Ordering}
use Rattle.std.specs.declared.cmp.Ordering.TheVariants.{Less, Equal, Greater}
use Rattle.std.specs.Ordering.{nat_cmp, ordering_then}
use Rattle.std.specs.Cmp.{ranked}
use Rattle.reo_net_base.specs.First.{Position, order_by}
use Rattle.reo_net_laws.specs.Differences.{number_at, DiffersFirst, FirstDifferenceDecides}
use Rattle.reo_net_laws.proofs.Places.{equal_numbers, less_numbers}

difference : (ps : List Position) (x y : List ℕ) → order_by ps x y ≡ Less → (place : ℕ) × DiffersFirst ps x y place
difference [] x y h = cc
difference (p ∷ ps) x y h =
    let a : ℕ = number_at p x in
    let b : ℕ = number_at p y in
    elim (nat_cmp a b) as (λ o. nat_cmp a b ≡ o → ordering_then o (order_by ps x y) ≡ Less → (place : ℕ) × DiffersFirst (p ∷ ps) x y place) [
      | Less ↦ λ e g. let lt : a < b = ranked a b Less (sym e) in (0, record { in_range = omega arith; before = λ q d q_lt. absurd (omega arith); smaller = λ d. lt })
      | Equal ↦ λ e g.
          let same : a ≡ b = ranked a b Equal (sym e) in
          let rest = difference ps x y g in
          (suc rest.0, record { in_range = omega (arith, rest.1.in_range); before = later p ps x y rest.0 same rest.1; smaller = rest.1.smaller })
      | Greater ↦ λ e g. cc
    ] refl h
  where
    later : (p : Position) (ps : List Position) (x y : List ℕ) (n : ℕ) → number_at p x ≡ number_at p y → DiffersFirst ps x y n
        → (q : ℕ) (d : Position) → q < suc n → number_at (get_or (p ∷ ps) q d) x ≡ number_at (get_or (p ∷ ps) q d) y
    later p ps x y n same rest zero d lt = same
    later p ps x y n same rest (suc q) d lt = rest.before q d (omega arith)

from_difference : (ps : List Position) (x y : List ℕ) (n : ℕ) → DiffersFirst ps x y n → order_by ps x y ≡ Less
from_difference [] x y n h = absurd (omega (arith, h.in_range))
from_difference (p ∷ ps) x y zero h = ap (λ (o : Ordering). ordering_then o (order_by ps x y)) (less_numbers (number_at p x) (number_at p y) (h.smaller p))
from_difference (p ∷ ps) x y (suc n) h =
    ap (λ (o : Ordering). ordering_then o (order_by ps x y)) (equal_numbers (number_at p x) (number_at p y) (h.before zero p (omega arith)))
    ∙ from_difference ps x y n (record { in_range = omega (arith, h.in_range); before = λ q d lt. h.before (suc q) d (omega arith); smaller = h.smaller })

pub first_difference : FirstDifferenceDecides
first_difference ps x y = (λ less. difference ps x y less, λ found. from_difference ps x y found.0 found.1)
