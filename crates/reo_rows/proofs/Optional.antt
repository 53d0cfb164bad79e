-- Numbers that may be none.
use Rattle.std.proofs.Common.{◌≡◌, ◌≢◌, ◌⊎◌, inl, inr, ℕ, Bool, true, false, eqb, Option, Some, None, ap, sym, ◌∙◌}
use Rattle.std.specs.Prelude.{not}
use Rattle.std.specs.Option.{option_eq}
use Rattle.std.proofs.lemmas.Bool.{cases_eq, eqb-true, eq-eqb, not-false}

pub some_same : (x y : ℕ) → Some x ≡ Some y → x ≡ y
some_same x y e = cc

pub is_some_or_not : (o : Option ℕ) (x : ℕ) → (o ≡ Some x) ⊎ (o ≢ Some x)
is_some_or_not None x = inr (λ e. cc)
is_some_or_not (Some y) x = elim (cases_eq y x) [ inl same ↦ inl (ap Some same) | inr other ↦ inr (λ e. other (some_same y x e)) ]

pub eq_some : (o : Option ℕ) (x : ℕ) → option_eq eqb o (Some x) ≡ true → o ≡ Some x
eq_some None x h = cc
eq_some (Some y) x h = ap Some (eqb-true y x h)

pub some_eq : (o : Option ℕ) (x : ℕ) → o ≡ Some x → option_eq eqb o (Some x) ≡ true
some_eq None x e = cc
some_eq (Some y) x e = eq-eqb y x (some_same y x e)

-- A test that it is not this number fails where it is.
pub ne_some : (answer : Bool) (o : Option ℕ) (x : ℕ) → answer ≡ not (option_eq eqb o (Some x)) → answer ≡ false → o ≡ Some x
ne_some answer o x is h = eq_some o x (not-false (option_eq eqb o (Some x)) (sym is ∙ h))
