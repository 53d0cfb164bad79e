-- Intervals that are the least with all results.
use Rattle.std.specs.Prelude.{◌≡◌, ◌⊎◌, ◌≤ℤ◌, ◌+ℤ◌, ◌-ℤ◌, ◌*ℤ◌, ℤ, pos, neg_ℤ, int_div}
use Rattle.reo_exprs.specs.declared.interval.Interval.{Interval}
use Rattle.reo_exprs.specs.Interval.{negated, sum, difference, product, quotient, hull}

-- the number lies in the interval
abbrev pub Has : Interval → ℤ → Type 0
Has x n = (x.low ≤ℤ n) × (n ≤ℤ x.high)

-- the interval has a number at all
abbrev pub IsInOrder : Interval → Type 0
IsInOrder x = x.low ≤ℤ x.high

-- the interval has all numbers of the set, and lies in each interval that has them all
pub record IsLeast (set : ℤ → Type 0) (z : Interval) : Type 0 where
  pub has : (n : ℤ) → set n → Has z n
  pub least : (w : Interval) → ((n : ℤ) → set n → Has w n) → (w.low ≤ℤ z.low) × (z.high ≤ℤ w.high)

-- the results of an operation on a number of each of two intervals
abbrev pub Results : (ℤ → ℤ → ℤ) → Interval → Interval → ℤ → Type 0
Results f x y n = (a : ℤ) × (b : ℤ) × Has x a × Has y b × (f a b ≡ n)

-- the negated numbers of an interval, and the numbers of two
abbrev pub Negations : Interval → ℤ → Type 0
Negations x n = (a : ℤ) × Has x a × (neg_ℤ a ≡ n)

abbrev pub OfEither : Interval → Interval → ℤ → Type 0
OfEither x y n = Has x n ⊎ Has y n

-- the intervals of these operations, and of a join, are the least
pub record IntervalsAreLeast : Type 0 where
  pub sums : (x y : Interval) → IsInOrder x → IsInOrder y → IsLeast (Results (λ a b. a +ℤ b) x y) (sum x y)
  pub differences : (x y : Interval) → IsInOrder x → IsInOrder y → IsLeast (Results (λ a b. a -ℤ b) x y) (difference x y)
  pub products : (x y : Interval) → IsInOrder x → IsInOrder y → IsLeast (Results (λ a b. a *ℤ b) x y) (product x y)
  pub quotients : (x y : Interval) → IsInOrder x → IsInOrder y → pos 1 ≤ℤ y.low → IsLeast (Results int_div x y) (quotient x y)
  pub negations : (x : Interval) → IsInOrder x → IsLeast (Negations x) (negated x)
  pub hulls : (x y : Interval) → IsInOrder x → IsInOrder y → IsLeast (OfEither x y) (hull x y)
