-- When the test of two items says that they are equal.
use Rattle.std.proofs.Common.{ℤ, Bool, true, false, ◌&&◌, ◌≡◌, ◌∙◌, ap, sym, refl, arith}
use Rattle.std.proofs.lemmas.Bool.{and_parts, eqb-true, eq-eqb}
use Rattle.std.specs.Prelude.{IsTrue, ◌↔◌}
use Rattle.std.specs.Ordering.{int_eq}
use Rattle.std.proofs.lemmas.Bool.Decides.{Decides-int_eq}
use denote.Hole.Carrier.{hidden}
use Rattle.reo_values.specs.declared.value.Value as value
use Rattle.reo_values.specs.declared.value.Value.{Value}
use Rattle.reo_values.specs.declared.value.Value.TheVariants as values
use Rattle.reo_values.specs.declared.value.Value.TheBlock.{hidden-the_row-Couple-0}
use Rattle.reo_exprs.proofs.Pairs.{Pair_of-equal}
use Rattle.reo_values.proofs.Sequences.{same_bytes, bytes_same}
use Rattle.reo_exprs.specs.Valued.{same_value}

-- integers that the test finds equal are the same
pub int_told : (a c : ℤ) → int_eq a c ≡ true → a ≡ c
int_told a c e = let d = Decides-int_eq a c in grind arith

-- and it finds the same ones equal
int_same : (a : ℤ) → int_eq a a ≡ true
int_same a = let d = Decides-int_eq a a in grind arith

-- items that the test finds equal are the same
pub same_true : (v w : Value) → same_value v w ≡ true → v ≡ w
unfolding hidden-the_row-Couple-0 hidden
same_true value.Unit value.Unit e = refl
same_true value.Unit (value.Bool true) e = absurd (cc)
same_true value.Unit (value.Bool false) e = absurd (cc)
same_true value.Unit (value.Int c) e = absurd (cc)
same_true value.Unit (value.Sym c) e = absurd (cc)
same_true value.Unit (value.Text c) e = absurd (cc)
same_true value.Unit (value.Pair' n (value.more_of-Couple c d value.end_of-Couple)) e = absurd (cc)
same_true (value.Bool true) value.Unit e = absurd (cc)
same_true (value.Bool true) (value.Bool true) e = refl
same_true (value.Bool true) (value.Bool false) e = absurd (cc)
same_true (value.Bool true) (value.Int c) e = absurd (cc)
same_true (value.Bool true) (value.Sym c) e = absurd (cc)
same_true (value.Bool true) (value.Text c) e = absurd (cc)
same_true (value.Bool true) (value.Pair' n (value.more_of-Couple c d value.end_of-Couple)) e = absurd (cc)
same_true (value.Bool false) value.Unit e = absurd (cc)
same_true (value.Bool false) (value.Bool true) e = absurd (cc)
same_true (value.Bool false) (value.Bool false) e = refl
same_true (value.Bool false) (value.Int c) e = absurd (cc)
same_true (value.Bool false) (value.Sym c) e = absurd (cc)
same_true (value.Bool false) (value.Text c) e = absurd (cc)
same_true (value.Bool false) (value.Pair' n (value.more_of-Couple c d value.end_of-Couple)) e = absurd (cc)
same_true (value.Int a) value.Unit e = absurd (cc)
same_true (value.Int a) (value.Bool true) e = absurd (cc)
same_true (value.Int a) (value.Bool false) e = absurd (cc)
same_true (value.Int a) (value.Int c) e = ap values.Int (int_told a c e)
same_true (value.Int a) (value.Sym c) e = absurd (cc)
same_true (value.Int a) (value.Text c) e = absurd (cc)
same_true (value.Int a) (value.Pair' n (value.more_of-Couple c d value.end_of-Couple)) e = absurd (cc)
same_true (value.Sym a) value.Unit e = absurd (cc)
same_true (value.Sym a) (value.Bool true) e = absurd (cc)
same_true (value.Sym a) (value.Bool false) e = absurd (cc)
same_true (value.Sym a) (value.Int c) e = absurd (cc)
same_true (value.Sym a) (value.Sym c) e = ap values.Sym (eqb-true a c e)
same_true (value.Sym a) (value.Text c) e = absurd (cc)
same_true (value.Sym a) (value.Pair' n (value.more_of-Couple c d value.end_of-Couple)) e = absurd (cc)
same_true (value.Text a) value.Unit e = absurd (cc)
same_true (value.Text a) (value.Bool true) e = absurd (cc)
same_true (value.Text a) (value.Bool false) e = absurd (cc)
same_true (value.Text a) (value.Int c) e = absurd (cc)
same_true (value.Text a) (value.Sym c) e = absurd (cc)
same_true (value.Text a) (value.Text c) e = ap values.Text (same_bytes a c e)
same_true (value.Text a) (value.Pair' n (value.more_of-Couple c d value.end_of-Couple)) e = absurd (cc)
same_true (value.Pair' m (value.more_of-Couple a b value.end_of-Couple)) value.Unit e = absurd (cc)
same_true (value.Pair' m (value.more_of-Couple a b value.end_of-Couple)) (value.Bool true) e = absurd (cc)
same_true (value.Pair' m (value.more_of-Couple a b value.end_of-Couple)) (value.Bool false) e = absurd (cc)
same_true (value.Pair' m (value.more_of-Couple a b value.end_of-Couple)) (value.Int c) e = absurd (cc)
same_true (value.Pair' m (value.more_of-Couple a b value.end_of-Couple)) (value.Sym c) e = absurd (cc)
same_true (value.Pair' m (value.more_of-Couple a b value.end_of-Couple)) (value.Text c) e = absurd (cc)
same_true (value.Pair' m (value.more_of-Couple a b value.end_of-Couple)) (value.Pair' n (value.more_of-Couple c d value.end_of-Couple)) e = let h = and_parts (same_value a c) (same_value b d) e in Pair_of-equal (record { left = a; right = b }) (record { left = c; right = d }) (same_true a c h.0) (same_true b d h.1)

-- and it finds an item equal to itself
pub same_self : (v : Value) → same_value v v ≡ true
unfolding hidden-the_row-Couple-0 hidden
same_self value.Unit = refl
same_self (value.Bool true) = refl
same_self (value.Bool false) = refl
same_self (value.Int a) = int_same a
same_self (value.Sym a) = eq-eqb a a refl
same_self (value.Text a) = bytes_same a
same_self (value.Pair' m (value.more_of-Couple a b value.end_of-Couple)) = (λ i. same_self a i && same_self b i)

-- a test that cannot be true is false
other : (b : Bool) → (b ≡ true → ⊥) → false ≡ b
other true h = absurd (h refl)
other false h = refl

-- an answer that is the test's tells whether two items are the same
pub tells_same : (r : Bool) (v w : Value) → r ≡ same_value v w → IsTrue r ↔ (v ≡ w)
tells_same r v w e = (λ h. same_true v w (sym e ∙ h), λ p. e ∙ ap (λ u. same_value u w) p ∙ same_self w)

-- an answer that tells this is the test's
pub test_told : (r : Bool) (v w : Value) → IsTrue r ↔ (v ≡ w) → r ≡ same_value v w
test_told true v w h = sym (ap (λ u. same_value u w) (h.0 refl) ∙ same_self w)
test_told false v w h = other (same_value v w) (λ e. let n : false ≡ true = h.1 (same_true v w e) in absurd (cc))

-- the test gives the same either way round
pub same_flip : (v w : Value) → same_value v w ≡ same_value w v
same_flip v w = test_told (same_value v w) w v (λ h. sym (same_true v w h), λ p. ap (λ u. same_value v u) p ∙ same_self v)
