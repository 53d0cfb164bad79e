-- Ticks, part by part.
use Rattle.std.proofs.Common.{◌≡◌, Bool, true, false, cond, ℕ, zero, suc, ◌+◌, ◌-◌, ◌<◌, ◌≤◌, sym, subst, arith, add-one}
use Rattle.reo_planning.specs.Keeping.{serves}
use Rattle.reo_planning.specs.Planned.{LeftWeighsNoMore, sum_below, weight_left}

-- One number more.
sum_next : (f : ℕ → ℕ) (n : ℕ) → sum_below (n + 1) f ≡ sum_below n f + f n
sum_next f n = subst (λ (m : ℕ). sum_below m f ≡ sum_below n f + f n) (sym (add-one n)) (λ i. sum_below n f + f n)

-- One part more has ticked at most as often as it weighs.
pub ticked_more : (f : ℕ → ℕ) (n start now next : ℕ) → now ≤ start + sum_below n f → next ≤ now + f n → next ≤ start + sum_below (n + 1) f
ticked_more f n start now next far more = omega (arith, far, more, sum_next f n)

-- Fewer parts weigh no more.
pub sum_fewer : (f : ℕ → ℕ) (n k : ℕ) → sum_below n f ≤ sum_below (n + k) f
sum_fewer f n zero = subst (λ (m : ℕ). sum_below n f ≤ sum_below m f) (let e : n ≡ n + zero = omega arith in e) (omega arith)
sum_fewer f n (suc k) =
    let before = sum_fewer f n k in
    let next = sum_next f (n + k) in
    let shift : (n + k) + 1 ≡ n + suc k = omega arith in
    subst (λ (m : ℕ). sum_below n f ≤ sum_below m f) shift (omega (arith, before, next))

-- Parts that do not tick.
pub ticked_over : (f : ℕ → ℕ) (n next start now : ℕ) → n ≤ next → now ≤ start + sum_below n f → now ≤ start + sum_below next f
ticked_over f n next start now le far =
    let shift : n + (next - n) ≡ next = omega (arith, le) in
    let whole : sum_below n f ≤ sum_below next f = subst (λ (m : ℕ). sum_below n f ≤ sum_below m f) shift (sum_fewer f n (next - n)) in
    omega (arith, far, whole)

-- A part that faults has ticked at most as often as it weighs, and all parts no more than that.
pub ticked_all : (f : ℕ → ℕ) (n count start now next : ℕ) → n < count → now ≤ start + sum_below n f → next ≤ now + f n → next ≤ start + sum_below count f
ticked_all f n count start now next lt far more = ticked_over f (n + 1) count start next (omega arith) (ticked_more f n start now next far more)

less_left : (b : Bool) (a c w : ℕ) → a ≤ c → a + cond b 0 w ≤ c + w
less_left true a c w le = omega arith
less_left false a c w le = omega arith

pub left_no_more : LeftWeighsNoMore
left_no_more kept budget weights zero = omega arith
left_no_more kept budget weights (suc n) = less_left (serves kept budget n) (sum_below n (weight_left kept budget weights)) (sum_below n weights) (weights n) (left_no_more kept budget weights n)
