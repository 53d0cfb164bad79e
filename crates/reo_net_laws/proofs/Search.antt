-- Bounded search.
use Rattle.std.proofs.Common.{◌≡◌, ◌⊎◌, inl, inr, ℕ, zero, suc, ◌<◌, true, false, refl, arith, below_more, add-one, Bool}
use Rattle.std.specs.Bool.{◌==◌}
use Rattle.std.proofs.lemmas.Bool.Decides.{nat_tests}
use Rattle.reo_net_base.specs.declared.mark.Mark.{Mark}
use Rattle.reo_net_base.specs.declared.mark.Mark.TheVariants.{F, G, R, J}

-- It holds or it does not.
abbrev pub Decided : Type 0 → Type 0
Decided P = P ⊎ (P → ⊥)

pub any_below : (P : ℕ → Type 0) → ((k : ℕ) → Decided (P k)) → (n : ℕ) → ((k : ℕ) × (k < n) × P k) ⊎ ((k : ℕ) → k < n → P k → ⊥)
any_below P test zero = inr (λ k lt. absurd (omega arith))
any_below P test (suc n) =
    elim (any_below P test n) [
      | inl found ↦ inl (found.0, omega (arith, found.1), found.2)
      | inr none ↦ elim (test n) [
        | inl here ↦ inl (n, omega arith, here)
        | inr not_here ↦ inr (rw add-one at (below_more (λ (k : ℕ). P k → ⊥) n none not_here))
      ]
    ]

pub flow_or : (m : Mark) → Decided (m ≡ F)
flow_or F = inl refl
flow_or G = inr (λ e. cc)
flow_or R = inr (λ e. cc)
flow_or J = inr (λ e. cc)

pub eq_or : (x y : ℕ) → Decided (x ≡ y)
eq_or x y = elim (x == y) as (λ t. (x == y) ≡ t → Decided (x ≡ y)) [ true ↦ λ e. inl (grind (arith, nat_tests)) | false ↦ λ e. inr (λ h. grind (arith, nat_tests)) ] refl

pub not_or : (P : Type 0) → Decided P → Decided (P → ⊥)
not_or P (inl p) = inr (λ h. h p)
not_or P (inr h) = inl h

pub both_or : (P Q : Type 0) → Decided P → Decided Q → Decided (P × Q)
both_or P Q (inl p) (inl q) = inl (p, q)
both_or P Q (inl p) (inr h) = inr (λ both. h both.1)
both_or P Q (inr h) q = inr (λ both. h both.0)

pub bool_or : (t : Bool) → Decided (t ≡ true)
bool_or true = inl refl
bool_or false = inr (λ e. cc)

pub all_below : (P : ℕ → Type 0) → ((k : ℕ) → Decided (P k)) → (n : ℕ) → Decided ((k : ℕ) → k < n → P k)
all_below P test n =
    elim (any_below (λ k. P k → ⊥) (λ k. not_or (P k) (test k)) n) [
      | inl found ↦ inr (λ all. found.2 (all found.0 found.1))
      | inr none ↦ inl (λ k lt. elim (test k) [ inl p ↦ p | inr not_p ↦ absurd (none k lt not_p) ])
    ]
