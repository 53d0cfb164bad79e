-- Numbers from -10^18 to 10^18.
use Rattle.std.proofs.Common.{Bool, true, false, ◌&&◌, ◌≡◌, ◌∙◌, ◌^◌, ◌*◌, ℤ, pos, neg_ℤ, ◌-ℤ◌, to_z, of_z, Some, None, ap, sym, refl, arith}
use Rattle.std.proofs.lemmas.Bool.{and_parts}
use Rattle.std.specs.Prelude.{◌≤ℤ◌, IsTrue, int_le, if◌then◌else◌, FitsSigned}
use Rattle.std.specs.Int.{int_min, int_max, w64}
use Rattle.std.proofs.lemmas.Int.{ints, clamps}
pub use Rattle.std.proofs.lemmas.Int.{to_z-of_z}
use Rattle.reo_exprs.specs.declared.interval.Interval.{Interval}
use Rattle.reo_exprs.specs.Interval.{is_near, near_number, is_near_interval, near, least, greatest}
use Rattle.reo_exprs.proofs.Options.{some_same}

-- a near number lies from -10^18 to 10^18
pub near_bounds : (z : ℤ) → is_near z ≡ true → (neg_ℤ (pos (10 ^ 18)) ≤ℤ z) × (z ≤ℤ pos (10 ^ 18))
near_bounds z h = let x = and_parts (int_le (neg_ℤ (pos (10 ^ 18))) z) (int_le z (pos (10 ^ 18))) h in (grind (arith, ints), grind (arith, ints))

-- and so do both bounds of a near interval
pub interval_bounds : (x : Interval) → IsTrue (is_near_interval x)
    → (neg_ℤ (pos (10 ^ 18)) ≤ℤ x.low) × (x.low ≤ℤ pos (10 ^ 18)) × (neg_ℤ (pos (10 ^ 18)) ≤ℤ x.high) × (x.high ≤ℤ pos (10 ^ 18))
interval_bounds x h =
    let y = and_parts (is_near x.low) (is_near x.high) h in
    let a = near_bounds x.low y.0 in
    let b = near_bounds x.high y.1 in
    (a.0, a.1, b.0, b.1)

-- a near number fits 64 bits
pub near_fits : (z : ℤ) → neg_ℤ (pos (10 ^ 18)) ≤ℤ z → z ≤ℤ pos (10 ^ 18) → FitsSigned w64 z
near_fits z a b = omega (arith, ints)

-- and so does a number of at most twice that size, as the sum of two
pub twice_fits : (z : ℤ) → neg_ℤ (pos (2 * 10 ^ 18)) ≤ℤ z → z ≤ℤ pos (2 * 10 ^ 18) → FitsSigned w64 z
twice_fits z a b = omega (arith, ints)

-- the bounds of an interval fit 64 bits
pub record BoundsFit (x : Interval) : Type 0 where
  pub low : FitsSigned w64 x.low
  pub high : FitsSigned w64 x.high

-- as those of a near one do
pub bounds_fit : (x : Interval) → IsTrue (is_near_interval x) → BoundsFit x
bounds_fit x h = let b = interval_bounds x h in record { low = near_fits x.low b.0 b.1; high = near_fits x.high b.2 b.3 }

-- the low bound of an interval whose bounds fit
pub low_fits : (x : Interval) → BoundsFit x → FitsSigned w64 x.low
low_fits x h = h.low

-- and the high one
pub high_fits : (x : Interval) → BoundsFit x → FitsSigned w64 x.high
high_fits x h = h.high

-- what 64 bits keep as it is
pub ruleset kept = (to_z-of_z, low_fits, high_fits)

-- to take a number from 0 negates it
pub minus_is : (z : ℤ) → pos 0 -ℤ z ≡ neg_ℤ z
minus_is z = omega (arith, ints)

-- a number from -10^18 to 10^18 is near
pub near_from : (z : ℤ) → neg_ℤ (pos (10 ^ 18)) ≤ℤ z → z ≤ℤ pos (10 ^ 18) → is_near z ≡ true
near_from z a b = grind (arith, ints)

-- a number that `near_number` refuses is not near
far_test : (p : ℤ) → near_number p ≡ None → is_near p ≡ true → ⊥
far_test p e h = let n : Some p ≡ None = sym (ap (λ b. if b then Some p else None) h) ∙ e in absurd (cc)

-- a test that cannot be true lets nothing through
none_if : (b : Bool) (x : Interval) → (b ≡ true → ⊥) → (if b then Some x else None) ≡ None
none_if true x h = absurd (h refl)
none_if false x h = refl

-- an interval with a number that is not near is not near
pub far_inside : (x : Interval) (p : ℤ) → x.low ≤ℤ p → p ≤ℤ x.high → near_number p ≡ None → near x ≡ None
far_inside x p a b e = none_if (is_near_interval x) x (λ h.
    let g = interval_bounds x h in
    let k : is_near p ≡ true = near_from p (omega (arith, ints)) (omega (arith, ints)) in
    far_test p e k)

-- what a test lets through is as it was, and the test is true
from_test : (b : Bool) (p q : ℤ) → (if b then Some p else None) ≡ Some q → (b ≡ true) × (p ≡ q)
from_test true p q e = (refl, some_same p q e)
from_test false p q e = absurd (cc)

-- a number that `near_number` gives is near, and as it was
pub some_test : (p q : ℤ) → near_number p ≡ Some q → (is_near p ≡ true) × (p ≡ q)
some_test p q e = from_test (is_near p) p q e

-- the least and the greatest of four near numbers make a near interval
pub all_near : (p q r s : ℤ) → is_near p ≡ true → is_near q ≡ true → is_near r ≡ true → is_near s ≡ true
    → near (record { low = least p q r s; high = greatest p q r s }) ≡ Some (record { low = least p q r s; high = greatest p q r s })
all_near p q r s a b c d =
    let x = near_bounds p a in
    let y = near_bounds q b in
    let z = near_bounds r c in
    let w = near_bounds s d in
    let m : is_near (least p q r s) ≡ true = near_from (least p q r s) (omega (arith, ints, clamps)) (omega (arith, ints, clamps)) in
    let n : is_near (greatest p q r s) ≡ true = near_from (greatest p q r s) (omega (arith, ints, clamps)) (omega (arith, ints, clamps)) in
    λ i. if m i && n i then Some (record { low = least p q r s; high = greatest p q r s }) else None

-- four numbers that fit 64 bits, and what is found of them two by two
module _ (a b c d m n r : ℤ) (f : FitsSigned w64 a) (g : FitsSigned w64 b) (h : FitsSigned w64 c) (k : FitsSigned w64 d) where
  -- the less of the less of two and two is the least of the four
  pub least_told : m ≡ int_min a b → n ≡ int_min c d → r ≡ int_min (to_z w64 (of_z w64 m)) (to_z w64 (of_z w64 n)) → to_z w64 (of_z w64 r) ≡ least a b c d
  least_told p q e = omega (arith, ints, clamps)

  -- and the greater of the greater of two and two the greatest
  pub greatest_told : m ≡ int_max a b → n ≡ int_max c d → r ≡ int_max (to_z w64 (of_z w64 m)) (to_z w64 (of_z w64 n)) → to_z w64 (of_z w64 r) ≡ greatest a b c d
  greatest_told p q e = omega (arith, ints, clamps)
