-- What clearing a flag leaves.
use Rattle.std.proofs.Common.{◌≡◌, ◌≢◌, ◌⊎◌, inl, inr, ℕ, Bool, true, false, not, ◌&&◌, List, refl, sym, ◌∙◌}
use Rattle.std.specs.Bool.{◌==◌}
use Rattle.std.proofs.lemmas.Bool.{and_parts, eq-eqb, ne_eqb}
use Rattle.reo_rows.specs.RowFlags.{flag}

pub and_no : (f a b : Bool) → (a ≡ false) ⊎ (b ≡ false) → (f && not (a && b)) ≡ f
and_no true true b (inl e) = absurd cc
and_no true true true (inr e) = absurd cc
and_no true true false (inr e) = refl
and_no true false b e = refl
and_no false a b e = refl

pub gone_of : (f : Bool) → (f && not (true && true)) ≡ false
gone_of true = refl
gone_of false = refl

module _ (table new : List (List Bool)) (i p : ℕ) (is : (k q : ℕ) → flag new k q ≡ (flag table k q && not ((k == i) && (q == p)))) where
  pub was_set : (k q : ℕ) → flag new k q ≡ true → flag table k q ≡ true
  was_set k q h = (and_parts (flag table k q) (not ((k == i) && (q == p))) (sym (is k q) ∙ h)).0

  pub other_row : (k q : ℕ) → k ≢ i → flag new k q ≡ flag table k q
  other_row k q ne = is k q ∙ and_no (flag table k q) (k == i) (q == p) (inl (ne_eqb k i ne))

  pub other_place : (k q : ℕ) → q ≢ p → flag new k q ≡ flag table k q
  other_place k q ne = is k q ∙ and_no (flag table k q) (k == i) (q == p) (inr (ne_eqb q p ne))

  pub gone_flag : flag new i p ≡ false
  gone_flag = is i p ∙ rw (eq-eqb i i refl, eq-eqb p p refl) (gone_of (flag table i p))
