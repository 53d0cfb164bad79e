-- Sums of shares.
use Rattle.std.proofs.Common.{◌≡◌, ℕ, zero, suc, ◌+◌, ◌<◌, ◌==◌, cond, refl, ap, ◌∙◌, arith}
use Rattle.reo_weights.specs.Bounds.{sum_below}

-- A sum is that of each function with the same numbers there.
pub sum_same : (n : ℕ) (f g : ℕ → ℕ) → ((k : ℕ) → k < n → f k ≡ g k) → sum_below n f ≡ sum_below n g
sum_same zero f g h = refl
sum_same (suc n) f g h =
    let rest = sum_same n f g (λ k lt. h k (omega arith)) in
    let last = h n (omega arith) in
    omega (arith, rest, last)

-- Shares with one more.
pub more : ℕ → ℕ → (ℕ → ℕ) → ℕ → ℕ
more n x f k = cond (k == n) x (f k)

pub more_before : (n x : ℕ) (f : ℕ → ℕ) (k : ℕ) → k < n → more n x f k ≡ f k
unfolding more
more_before n x f k lt = grind arith

pub more_here : (n x : ℕ) (f : ℕ → ℕ) → more n x f n ≡ x
unfolding more
more_here n x f = grind arith

-- The sum with one more.
pub sum_more : (n x : ℕ) (f : ℕ → ℕ) → sum_below (n + 1) (more n x f) ≡ sum_below n f + x
sum_more n x f =
    let before : sum_below n (more n x f) ≡ sum_below n f = sum_same n (more n x f) f (λ k lt. more_before n x f k lt) in
    let shift : n + 1 ≡ suc n = omega arith in
    ap (λ (m : ℕ). sum_below m (more n x f)) shift ∙ (λ i. before i + more_here n x f i)
