-- The values of a loop's variable fit 64 bits.
use Rattle.std.proofs.Common.{arith, ◌≡◌, ◌∙◌, ◌<◌, ◌^◌, ℕ, ℤ, pos, neg_ℤ, ◌+ℤ◌, ◌-ℤ◌, to_z, of_z, List, ap, sym, subst}
use Rattle.std.specs.Prelude.{◌≤ℤ◌, negsuc, FitsSigned}
use Rattle.std.specs.Int.{w64}
use Rattle.std.proofs.lemmas.Int.{ints, to_z-of_z, to_z_pos}
use Rattle.reo_expand.specs.declared.base.bound.Bound.{Bound}
use Rattle.reo_expand.specs.base.Indexed.{natural}
use Rattle.reo_expand.specs.base.Expansion.{with_bound}
use Rattle.reo_expand.specs.declared.walk.walk.Span.{Span}
use Rattle.reo_expand.specs.walk.Spans.{IsSpanOf}

count_within : (z : ℤ) (j : ℕ) → j < natural z → (pos j +ℤ pos 1) ≤ℤ z
count_within (pos n) j h = omega (arith, ints)
count_within (negsuc n) j h = absurd (omega arith)

at_most : (low high : ℤ) (j : ℕ) → (pos j +ℤ pos 1) ≤ℤ ((high -ℤ low) +ℤ pos 1) → high ≤ℤ pos (2 ^ 61) → (low +ℤ pos j) ≤ℤ pos (2 ^ 61)
at_most low high j h k = omega (arith, ints)

value_is : (first : ℤ) (j : ℕ) → neg_ℤ (pos (2 ^ 61)) ≤ℤ first → (first +ℤ pos j) ≤ℤ pos (2 ^ 61)
    → to_z w64 (of_z w64 (to_z w64 (of_z w64 first) +ℤ to_z w64 j)) ≡ first +ℤ pos j
value_is first j a b =
    let f : FitsSigned w64 first = omega (arith, ints) in
    let g : FitsSigned w64 (first +ℤ pos j) = omega (arith, ints) in
    let h : j < 2 ^ 63 = omega (arith, ints) in
    ap (λ (z : ℤ). to_z w64 (of_z w64 (z +ℤ to_z w64 j))) (to_z-of_z w64 first f)
    ∙ ap (λ (z : ℤ). to_z w64 (of_z w64 (first +ℤ z))) (to_z_pos w64 j h)
    ∙ to_z-of_z w64 (first +ℤ pos j) g

turn_value : (low high : ℤ) (s : Span) (j : ℕ) → IsSpanOf low high s → j < s.turns
    → to_z w64 (of_z w64 (to_z w64 (of_z w64 s.first) +ℤ to_z w64 j)) ≡ s.first +ℤ pos j
turn_value low high s j span lt =
    let below : j < natural ((high -ℤ low) +ℤ pos 1) = subst (λ (n : ℕ). j < n) span.turns lt in
    let within = count_within ((high -ℤ low) +ℤ pos 1) j below in
    value_is s.first j
    (subst (λ (z : ℤ). neg_ℤ (pos (2 ^ 61)) ≤ℤ z) (sym span.first) span.low_near.0)
    (subst (λ (z : ℤ). (z +ℤ pos j) ≤ℤ pos (2 ^ 61)) (sym span.first) (at_most low high j within span.high_near.1))

-- What is bound when a turn has begun.
pub entered : (low high : ℤ) (s : Span) (j : ℕ) (bound b e : List Bound) (variable : List ℕ) → IsSpanOf low high s → j < s.turns
    → e ≡ with_bound b variable (to_z w64 (of_z w64 (to_z w64 (of_z w64 s.first) +ℤ to_z w64 j))) → b ≡ bound → e ≡ with_bound bound variable (s.first +ℤ pos j)
entered low high s j bound b e variable span lt is same =
    is ∙ ap (λ (l : List Bound). with_bound l variable (to_z w64 (of_z w64 (to_z w64 (of_z w64 s.first) +ℤ to_z w64 j)))) same
    ∙ ap (with_bound bound variable) (turn_value low high s j span lt)
