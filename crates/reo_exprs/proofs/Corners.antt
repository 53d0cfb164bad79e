-- The interval of a product, a quotient or a remainder has all of them.
use Rattle.std.proofs.Common.{◌≡◌, ◌<◌, ◌≤◌, ◌*◌, ◌/◌, ℕ, suc, Bool, true, false, ℤ, pos, negsuc, ◌*ℤ◌, ◌-ℤ◌, ◌⊎◌, inl, inr, None, sym, arith}
use Rattle.std.specs.Prelude.{◌≤ℤ◌, if◌then◌else◌, int_div, int_rem, int_le}
use Rattle.std.specs.Int.{int_min, int_max}
use Rattle.std.proofs.lemmas.Int.{ints, clamps}
use Rattle.std.proofs.lemmas.Nat.{mul-le, le-div}
use Rattle.std.proofs.Math.Nat.{div-mul-le_self, mod-lt, mod-le}
use Rattle.std.proofs.Math.IntN.{pos-*ℤ-pos, negsuc-*ℤ-pos, *ℤ-negsuc, *ℤ_comm}
use Rattle.reo_exprs.specs.declared.interval.Interval.{Interval}
use Rattle.reo_exprs.specs.Interval.{least, greatest, product, quotient, remainder, near, near_number}
use Rattle.reo_exprs.proofs.Near.{far_inside}

-- a number lies between two, in one order or the other
abbrev pub Between : ℤ → ℤ → ℤ → Type 0
Between a z b = ((a ≤ℤ z) × (z ≤ℤ b)) ⊎ ((b ≤ℤ z) × (z ≤ℤ a))

-- to multiply by a natural keeps the order
keeps_order : (a b : ℤ) (n : ℕ) → a ≤ℤ b → (a *ℤ pos n) ≤ℤ (b *ℤ pos n)
keeps_order (pos p) (pos q) n h = rw (pos-*ℤ-pos p n, pos-*ℤ-pos q n) (let m : p * n ≤ q * n = mul-le p n q n (omega (arith, ints)) (omega arith) in omega (arith, ints))
keeps_order (pos p) (negsuc q) n h = absurd (omega (arith, ints))
keeps_order (negsuc p) (pos q) n h = rw (negsuc-*ℤ-pos p n, pos-*ℤ-pos q n) (omega (arith, ints))
keeps_order (negsuc p) (negsuc q) n h =
    rw (negsuc-*ℤ-pos p n, negsuc-*ℤ-pos q n) (let m : suc q * n ≤ suc p * n = mul-le (suc q) n (suc p) n (omega (arith, ints)) (omega arith) in omega (arith, ints))

-- a product by one number lies between those of numbers on either side, in one order or the other
times_between : (a x b y : ℤ) → a ≤ℤ x → x ≤ℤ b → Between (a *ℤ y) (x *ℤ y) (b *ℤ y)
times_between a x b (pos n) h g = inl (keeps_order a x n h, keeps_order x b n g)
times_between a x b (negsuc n) h g =
    let low = keeps_order a x (suc n) h in
    let high = keeps_order x b (suc n) g in
    rw (*ℤ-negsuc a n, *ℤ-negsuc x n, *ℤ-negsuc b n) (inr (omega (arith, ints), omega (arith, ints)))

-- and so where the number stands on the left
times_between_right : (a c y d : ℤ) → c ≤ℤ y → y ≤ℤ d → Between (a *ℤ c) (a *ℤ y) (a *ℤ d)
times_between_right a c y d h g = rw (*ℤ_comm a c, *ℤ_comm a y, *ℤ_comm a d) (times_between c y d a h g)

-- to divide by a number above zero keeps the order
div_keeps : (p q n : ℕ) → 0 < n → p ≤ q → p / n ≤ q / n
div_keeps p q n h g = le-div (p / n) q n h (let m = div-mul-le_self p n in omega arith)

-- and a greater divisor gives less
div_less : (p c d : ℕ) → 0 < c → c ≤ d → p / d ≤ p / c
div_less p c d h g = le-div (p / d) p c h (let m = div-mul-le_self p d in let k : (p / d) * c ≤ (p / d) * d = mul-le (p / d) c (p / d) d (omega arith) g in omega arith)

-- to divide by a number above zero keeps the order of numbers of either sign
over_keeps : (a b : ℤ) (n : ℕ) → 0 < n → a ≤ℤ b → int_div a (pos n) ≤ℤ int_div b (pos n)
over_keeps (pos p) (pos q) n h g = let m = div_keeps p q n h (omega (arith, ints)) in omega (arith, ints)
over_keeps (pos p) (negsuc q) n h g = absurd (omega (arith, ints))
over_keeps (negsuc p) (pos q) n h g = omega (arith, ints)
over_keeps (negsuc p) (negsuc q) n h g = let m = div_keeps (suc q) (suc p) n h (omega (arith, ints)) in omega (arith, ints)

-- a quotient lies between those of numbers on either side
over_between : (a x b y : ℤ) → pos 1 ≤ℤ y → a ≤ℤ x → x ≤ℤ b → Between (int_div a y) (int_div x y) (int_div b y)
over_between a x b (pos n) h g k = let above : 0 < n = omega (arith, ints) in inl (over_keeps a x n above g, over_keeps x b n above k)
over_between a x b (negsuc n) h g k = absurd (omega (arith, ints))

-- and between those by divisors on either side
by_between : (a c y d : ℤ) → pos 1 ≤ℤ c → c ≤ℤ y → y ≤ℤ d → Between (int_div a c) (int_div a y) (int_div a d)
by_between (pos p) (pos c) (pos y) (pos d) h g k =
    let m = div_less p c y (omega (arith, ints)) (omega (arith, ints)) in
    let n = div_less p y d (omega (arith, ints)) (omega (arith, ints)) in
    inr (omega (arith, ints), omega (arith, ints))
by_between (negsuc p) (pos c) (pos y) (pos d) h g k =
    let m = div_less (suc p) c y (omega (arith, ints)) (omega (arith, ints)) in
    let n = div_less (suc p) y d (omega (arith, ints)) (omega (arith, ints)) in
    inl (omega (arith, ints), omega (arith, ints))
by_between a (negsuc c) y d h g k = absurd (omega (arith, ints))
by_between a (pos c) (negsuc y) d h g k = absurd (omega (arith, ints))
by_between a (pos c) (pos y) (negsuc d) h g k = absurd (omega (arith, ints))

-- the least of four numbers is at most each
lowest : (p q r s : ℤ) → (least p q r s ≤ℤ p) × (least p q r s ≤ℤ q) × (least p q r s ≤ℤ r) × (least p q r s ≤ℤ s)
lowest p q r s = (omega (arith, ints, clamps), omega (arith, ints, clamps), omega (arith, ints, clamps), omega (arith, ints, clamps))

-- and the greatest at least each
highest : (p q r s : ℤ) → (p ≤ℤ greatest p q r s) × (q ≤ℤ greatest p q r s) × (r ≤ℤ greatest p q r s) × (s ≤ℤ greatest p q r s)
highest p q r s = (omega (arith, ints, clamps), omega (arith, ints, clamps), omega (arith, ints, clamps), omega (arith, ints, clamps))

-- what lies between two numbers lies in each interval that has both
within_two : (m u w v n : ℤ) → Between u w v → m ≤ℤ u → m ≤ℤ v → u ≤ℤ n → v ≤ℤ n → (m ≤ℤ w) × (w ≤ℤ n)
within_two m u w v n (inl h) a b c d = (omega (arith, ints), omega (arith, ints))
within_two m u w v n (inr h) a b c d = (omega (arith, ints), omega (arith, ints))

-- what lies between two numbers, each between two of four corners, lies between the least and the greatest corner
within_four : (p q r s u v w : ℤ) → Between p u q → Between r v s → Between u w v → (least p q r s ≤ℤ w) × (w ≤ℤ greatest p q r s)
within_four p q r s u v w f g h =
    let low = lowest p q r s in
    let high = highest p q r s in
    let x = within_two (least p q r s) p u q (greatest p q r s) f low.0 low.1 high.0 high.1 in
    let y = within_two (least p q r s) r v s (greatest p q r s) g low.2 low.3 high.2 high.3 in
    within_two (least p q r s) u w v (greatest p q r s) h x.0 y.0 x.1 y.1

-- a remainder has the sign of what is divided, is no farther from zero than it, and nearer than the divisor
abbrev pub Remains : ℤ → ℤ → ℤ → Type 0
Remains v w r = ((pos 0 ≤ℤ v) × (pos 0 ≤ℤ r) × (r ≤ℤ v) × (r ≤ℤ (w -ℤ pos 1))) ⊎ ((v ≤ℤ pos 0) × (v ≤ℤ r) × (r ≤ℤ pos 0) × ((pos 1 -ℤ w) ≤ℤ r))

-- so does each remainder by a divisor of at least 1
remains : (v w : ℤ) → pos 1 ≤ℤ w → Remains v w (int_rem v w)
remains (pos p) (pos n) h =
    let above : 0 < n = omega (arith, ints) in
    let a = mod-lt p above in
    let b = mod-le p n in
    inl (omega (arith, ints), omega (arith, ints), omega (arith, ints), omega (arith, ints))
remains (negsuc p) (pos n) h =
    let above : 0 < n = omega (arith, ints) in
    let a = mod-lt (suc p) above in
    let b = mod-le (suc p) n in
    inr (omega (arith, ints), omega (arith, ints), omega (arith, ints), omega (arith, ints))
remains v (negsuc n) h = absurd (omega (arith, ints))

-- the low bound of the remainders is at most each
lower_rest : (a v w d r : ℤ) → pos 1 ≤ℤ w → w ≤ℤ d → a ≤ℤ v → Remains v w r → (if int_le (pos 0) a then pos 0 else int_max a (pos 1 -ℤ d)) ≤ℤ r
lower_rest a v w d r e g h (inl k) = grind (arith, ints, clamps)
lower_rest a v w d r e g h (inr k) = grind (arith, ints, clamps)

-- and the high bound at least each
upper_rest : (b v w d r : ℤ) → pos 1 ≤ℤ w → w ≤ℤ d → v ≤ℤ b → Remains v w r → r ≤ℤ (if int_le b (pos 0) then pos 0 else int_min b (d -ℤ pos 1))
upper_rest b v w d r e g h (inl k) = grind (arith, ints, clamps)
upper_rest b v w d r e g h (inr k) = grind (arith, ints, clamps)

module _ (x y : Interval) (v w : ℤ) (a : x.low ≤ℤ v) (b : v ≤ℤ x.high) (c : y.low ≤ℤ w) (d : w ≤ℤ y.high) where
  -- the interval of a product has it
  pub product_has : ((product x y).low ≤ℤ (v *ℤ w)) × ((v *ℤ w) ≤ℤ (product x y).high)
  product_has =
      within_four (x.low *ℤ y.low) (x.low *ℤ y.high) (x.high *ℤ y.low) (x.high *ℤ y.high) (x.low *ℤ w) (x.high *ℤ w) (v *ℤ w)
      (times_between_right x.low y.low w y.high c d) (times_between_right x.high y.low w y.high c d) (times_between x.low v x.high w a b)

  -- and that of a quotient, where each divisor is at least 1
  pub quotient_has : pos 1 ≤ℤ y.low → ((quotient x y).low ≤ℤ int_div v w) × (int_div v w ≤ℤ (quotient x y).high)
  quotient_has e =
      within_four (int_div x.low y.low) (int_div x.low y.high) (int_div x.high y.low) (int_div x.high y.high) (int_div x.low w) (int_div x.high w) (int_div v w)
      (by_between x.low y.low w y.high e c d) (by_between x.high y.low w y.high e c d) (over_between x.low v x.high w (omega (arith, ints)) a b)

  -- and that of a remainder
  pub remainder_has : pos 1 ≤ℤ y.low → ((remainder x y).low ≤ℤ int_rem v w) × (int_rem v w ≤ℤ (remainder x y).high)
  remainder_has e =
      let above : pos 1 ≤ℤ w = omega (arith, ints) in
      let rest = remains v w above in
      (lower_rest x.low v w y.high (int_rem v w) above d a rest, upper_rest x.high v w y.high (int_rem v w) above d b rest)

-- a bound of an interval: the low one, or the high one
abbrev pub bound_of : Bool → Interval → ℤ
bound_of high x = if high then x.high else x.low

-- where a corner of a product is far, so is its interval
pub product_far : (x y : Interval) (i j : Bool) → None ≡ near_number (bound_of i x *ℤ bound_of j y) → near (product x y) ≡ None
product_far x y false false e = far_inside (product x y) (x.low *ℤ y.low) (omega (arith, ints, clamps)) (omega (arith, ints, clamps)) (sym e)
product_far x y false true e = far_inside (product x y) (x.low *ℤ y.high) (omega (arith, ints, clamps)) (omega (arith, ints, clamps)) (sym e)
product_far x y true false e = far_inside (product x y) (x.high *ℤ y.low) (omega (arith, ints, clamps)) (omega (arith, ints, clamps)) (sym e)
product_far x y true true e = far_inside (product x y) (x.high *ℤ y.high) (omega (arith, ints, clamps)) (omega (arith, ints, clamps)) (sym e)
