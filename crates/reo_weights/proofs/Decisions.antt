-- What is decided: it holds, or it is refuted.
use Rattle.std.proofs.Common.{◌≡◌, ◌⊎◌, inl, inr, ℕ, zero, suc, ◌<◌, List, [], ◌∷◌, Bool, true, false, Option, Some, None, refl, ap, sym, subst, arith, below_more}
use Rattle.std.specs.Prelude.{Contains}
use Rattle.reo_net_base.specs.declared.mark.Mark.{Mark}
use Rattle.reo_net_base.specs.declared.mark.Mark.TheVariants.{F, G, R, J}

-- Something holds, or it is refuted.
abbrev pub IsDecided : Type 0 → Type 0
IsDecided A = A ⊎ (A → ⊥)

module _ {A B : Type 0} where
  -- Two decided statements are decided together.
  pub both_decided : IsDecided A → IsDecided B → IsDecided (A × B)
  both_decided (inl a) (inl b) = inl (a, b)
  both_decided (inl a) (inr b) = inr (λ h. b h.1)
  both_decided (inr a) d = inr (λ h. a h.0)

  -- What is decided where something decided holds is decided with it as a premise.
  pub given_decided : IsDecided A → (A → IsDecided B) → IsDecided (A → B)
  given_decided (inl a) d = elim (d a) [
    | inl b ↦ inl (λ h. b)
    | inr not_b ↦ inr (λ h. not_b (h a))
  ]
  given_decided (inr a) d = inl (λ h. absurd (a h))

  -- What is so exactly where something decided holds is decided.
  pub same_decided : (A → B) → (B → A) → IsDecided A → IsDecided B
  same_decided there back (inl a) = inl (there a)
  same_decided there back (inr a) = inr (λ b. a (back b))

-- The answer of a decision.
abbrev pub is_so : {A : Type 0} → IsDecided A → Bool
is_so (inl a) = true
is_so (inr a) = false

module _ {A : Type 0} where
  -- The answer is true exactly where it holds.
  pub so_true : (d : IsDecided A) → A → is_so d ≡ true
  so_true (inl a) h = refl
  so_true (inr a) h = absurd (a h)

  pub true_so : (d : IsDecided A) → is_so d ≡ true → A
  true_so (inl a) h = a
  true_so (inr a) h = absurd cc

-- Whether a test is true is decided.
pub true_decided : (b : Bool) → IsDecided (b ≡ true)
true_decided true = inl refl
true_decided false = inr (λ h. cc)

module _ (holds : ℕ → Type 0) where
  -- Below a number each has what is decided of each, or some one has it not.
  pub each_or : (n : ℕ) → ((k : ℕ) → k < n → IsDecided (holds k)) → ((k : ℕ) → k < n → holds k) ⊎ ((k : ℕ) × (k < n) × (holds k → ⊥))
  each_or zero d = inl (λ k lt. absurd (omega arith))
  each_or (suc n) d = elim (each_or n (λ k lt. d k (omega arith))) [
    | inr some ↦ inr (some.0, omega (arith, some.1), some.2)
    | inl each ↦ elim (d n (omega arith)) [
      | inr fails ↦ inr (n, omega arith, fails)
      | inl here ↦ inl (λ k lt. below_more holds n each here k (omega arith))
    ]
  ]

  -- Whether each has it is decided.
  pub each_decided : (n : ℕ) → ((k : ℕ) → k < n → IsDecided (holds k)) → IsDecided ((k : ℕ) → k < n → holds k)
  each_decided n d = elim (each_or n d) [
    | inl each ↦ inl each
    | inr some ↦ inr (λ each. some.2 (each some.0 some.1))
  ]

  -- Whether some one has it is decided.
  pub some_decided : (n : ℕ) → ((k : ℕ) → k < n → IsDecided (holds k)) → IsDecided ((k : ℕ) × (k < n) × holds k)
  some_decided zero d = inr (λ h. absurd (omega (arith, h.1)))
  some_decided (suc n) d = elim (some_decided n (λ k lt. d k (omega arith))) [
    | inl some ↦ inl (some.0, omega (arith, some.1), some.2)
    | inr none ↦ elim (d n (omega arith)) [
      | inl here ↦ inl (n, omega arith, here)
      | inr fails ↦ inr (λ h. below_more (λ (k : ℕ). holds k → ⊥) n (λ k lt here. none (k, lt, here)) fails h.0 (omega (arith, h.1)) h.2)
    ]
  ]

module _ {A : Type 0} (holds : A → Type 0) (d : (x : A) → IsDecided (holds x)) where
  -- Whether some element of a list has what is decided of each is decided.
  pub some_in : (xs : List A) → IsDecided ((x : A) × Contains xs x × holds x)
  some_in [] = inr (λ h. absurd (omega (arith, h.1.1)))
  some_in (x ∷ xs) = elim (d x) [
    | inl here ↦ inl (x, (zero, omega arith, refl), here)
    | inr fails ↦ elim (some_in xs) [
      | inl some ↦ inl (some.0, (suc some.1.0, omega (arith, some.1.1), some.1.2), some.2)
      | inr none ↦ inr (λ h. not_behind h.0 h.1 h.2 fails none)
    ]
  ]
    where
      not_behind : (y : A) → Contains (x ∷ xs) y → holds y → (holds x → ⊥) → (((x : A) × Contains xs x × holds x) → ⊥) → ⊥
      not_behind y (zero, lt, is) h fails none = fails (subst holds (sym is) h)
      not_behind y (suc k, lt, is) h fails none = none (y, (k, omega arith, is), h)

-- Whether two marks are one is decided.
pub marks_decided : (a b : Mark) → IsDecided (a ≡ b)
marks_decided F F = inl refl
marks_decided G G = inl refl
marks_decided R R = inl refl
marks_decided J J = inl refl
marks_decided a b = inr (λ e. cc)

-- Whether two options are one is decided, where it is of what they hold.
pub options_decided : {A : Type 0} → ((x y : A) → IsDecided (x ≡ y)) → (a b : Option A) → IsDecided (a ≡ b)
options_decided d None None = inl refl
options_decided d (Some x) (Some y) = same_decided (λ e. ap Some e) (λ e. cc) (d x y)
options_decided d a b = inr (λ e. cc)
