-- The intervals of operations are the least with all results.
use Rattle.std.proofs.Common.{ℤ, pos, ◌+ℤ◌, ◌-ℤ◌, ◌*ℤ◌, inl, inr, refl, subst, arith}
use Rattle.std.specs.Prelude.{◌≤ℤ◌, int_div}
use Rattle.std.proofs.lemmas.Int.{ints, clamps}
use Rattle.reo_exprs.specs.declared.interval.Interval.{Interval}
use Rattle.reo_exprs.specs.Interval.{corners, negated, sum, difference, product, quotient, hull}
use Rattle.reo_exprs.specs.Least.{Has, IsInOrder, IsLeast, Results, Negations, OfEither, IntervalsAreLeast}
use Rattle.reo_exprs.proofs.Corners.{product_has, quotient_has}

-- a number is at most itself
least_self : (a : ℤ) → a ≤ℤ a
least_self a = omega (arith, ints)

-- what has the results of all bounds contains the interval by corners
module _ (f : ℤ → ℤ → ℤ) (x y w : Interval) (p : IsInOrder x) (q : IsInOrder y) (all : (n : ℤ) → Results f x y n → Has w n) where
  -- it has the result at both low bounds
  at_lows : Has w (f x.low y.low)
  at_lows = all (f x.low y.low) (x.low, y.low, (least_self x.low, p), (least_self y.low, q), refl)

  -- at the low bound and the high one
  at_low_high : Has w (f x.low y.high)
  at_low_high = all (f x.low y.high) (x.low, y.high, (least_self x.low, p), (q, least_self y.high), refl)

  -- at the high bound and the low one
  at_high_low : Has w (f x.high y.low)
  at_high_low = all (f x.high y.low) (x.high, y.low, (p, least_self x.high), (least_self y.low, q), refl)

  -- and at both high bounds
  at_highs : Has w (f x.high y.high)
  at_highs = all (f x.high y.high) (x.high, y.high, (p, least_self x.high), (q, least_self y.high), refl)

  -- so the interval by corners lies in it
  corners_within : (w.low ≤ℤ (corners f x y).low) × ((corners f x y).high ≤ℤ w.high)
  corners_within =
      let a = at_lows in let b = at_low_high in let c = at_high_low in let d = at_highs in
      (omega (arith, ints, clamps), omega (arith, ints, clamps))

-- the interval of a sum is the least with all sums
sum_least : (x y : Interval) → IsInOrder x → IsInOrder y → IsLeast (Results (λ a b. a +ℤ b) x y) (sum x y)
sum_least x y p q = record {
  has = λ n r. let h = r.2 in let k = r.3 in subst (λ m. Has (sum x y) m) r.4 (omega (arith, ints), omega (arith, ints));
  least = λ w all. let a = at_lows (λ a b. a +ℤ b) x y w p q all in let d = at_highs (λ a b. a +ℤ b) x y w p q all in (a.0, d.1);
}

-- that of a difference the least with all differences
difference_least : (x y : Interval) → IsInOrder x → IsInOrder y → IsLeast (Results (λ a b. a -ℤ b) x y) (difference x y)
difference_least x y p q = record {
  has = λ n r. let h = r.2 in let k = r.3 in subst (λ m. Has (difference x y) m) r.4 (omega (arith, ints), omega (arith, ints));
  least = λ w all. let b = at_low_high (λ a b. a -ℤ b) x y w p q all in let c = at_high_low (λ a b. a -ℤ b) x y w p q all in (b.0, c.1);
}

-- that of a product the least with all products
product_least : (x y : Interval) → IsInOrder x → IsInOrder y → IsLeast (Results (λ a b. a *ℤ b) x y) (product x y)
product_least x y p q = record {
  has = λ n r. subst (λ m. Has (product x y) m) r.4 (product_has x y r.0 r.1 r.2.0 r.2.1 r.3.0 r.3.1);
  least = λ w all. corners_within (λ a b. a *ℤ b) x y w p q all;
}

-- that of a quotient the least with all quotients, by divisors of at least 1
quotient_least : (x y : Interval) → IsInOrder x → IsInOrder y → pos 1 ≤ℤ y.low → IsLeast (Results int_div x y) (quotient x y)
quotient_least x y p q h = record {
  has = λ n r. subst (λ m. Has (quotient x y) m) r.4 (quotient_has x y r.0 r.1 r.2.0 r.2.1 r.3.0 r.3.1 h);
  least = λ w all. corners_within int_div x y w p q all;
}

-- that of negated numbers the least with them all
negated_least : (x : Interval) → IsInOrder x → IsLeast (Negations x) (negated x)
negated_least x p = record {
  has = λ n r. let h = r.1 in subst (λ m. Has (negated x) m) r.2 (omega (arith, ints), omega (arith, ints));
  least = λ w all. ((all (negated x).low (x.high, (p, least_self x.high), refl)).0, (all (negated x).high (x.low, (least_self x.low, p), refl)).1);
}

-- the hull of two intervals has the numbers of either
in_hull : (x y : Interval) (n : ℤ) → OfEither x y n → Has (hull x y) n
in_hull x y n (inl h) = (omega (arith, ints, clamps), omega (arith, ints, clamps))
in_hull x y n (inr h) = (omega (arith, ints, clamps), omega (arith, ints, clamps))

-- and is the least that has them
hull_least : (x y : Interval) → IsInOrder x → IsInOrder y → IsLeast (OfEither x y) (hull x y)
hull_least x y p q = record {
  has = in_hull x y;
  least = λ w all.
      let a = all x.low (inl (least_self x.low, p)) in let b = all x.high (inl (p, least_self x.high)) in
      let c = all y.low (inr (least_self y.low, q)) in let d = all y.high (inr (q, least_self y.high)) in
      (omega (arith, ints, clamps), omega (arith, ints, clamps));
}

-- all these together
pub are_least : IntervalsAreLeast
are_least = record {
  sums = sum_least;
  differences = difference_least;
  products = product_least;
  quotients = quotient_least;
  negations = negated_least;
  hulls = hull_least;
}
