-- Bytes that mark rows, one row after another.
use Rattle.std.proofs.Common.{◌≡◌, ◌≢◌, ◌↔◌, inl, inr, ℕ, ◌+◌, ◌<◌, ◌≤◌, List, [], ◌∷◌, ◌++◌, length, get_or, set, refl, ap, sym, ◌∙◌, subst, arith}
use Rattle.std.proofs.lemmas.List.{length-append, length-set, get_or_append_left, get_or-set_same, get_or-set_other}
use Rattle.std.proofs.Math.Seq.{get_or-append_seam}
use Rattle.std.proofs.lemmas.Bool.{cases_lt}
use Rattle.reo_refute_parts.specs.places.AllowedRows.{AreMarked}

module _ (test : ℕ → Type 0) where
  pub marked_none : AreMarked 0 test []
  marked_none = record { one_each = refl; exact = λ row lt. absurd (omega (arith, lt)) }

  seam : (n : ℕ) (bytes : List ℕ) (byte : ℕ) → length bytes ≡ n → get_or (bytes ++ (byte ∷ [])) n 0 ≡ byte
  seam n bytes byte same = subst (λ (m : ℕ). get_or (bytes ++ (byte ∷ [])) m 0 ≡ byte) same (get_or-append_seam bytes byte [] 0)

  pub marked_more : (n : ℕ) (bytes : List ℕ) (byte : ℕ) → AreMarked n test bytes → ((byte ≢ 0) ↔ test n) → AreMarked (n + 1) test (bytes ++ (byte ∷ []))
  marked_more n bytes byte are is = record {
    one_each = length-append bytes (byte ∷ []) ∙ ap (λ (m : ℕ). m + 1) are.one_each;
    exact = λ row lt. elim (cases_lt row n) [
      | inl below ↦ subst (λ (b : ℕ). (b ≢ 0) ↔ test row) (sym (get_or_append_left bytes (byte ∷ []) 0 row (omega (arith, below, are.one_each)))) (are.exact row below)
      | inr from ↦
          let same : n ≡ row = omega (arith, from, lt) in
          subst (λ (m : ℕ). (get_or (bytes ++ (byte ∷ [])) m 0 ≢ 0) ↔ test m) same (subst (λ (b : ℕ). (b ≢ 0) ↔ test n) (sym (seam n bytes byte are.one_each)) is)
    ];
  }

-- The marks of the rows so far that are not kept are cleared.
pub record AreCleared (keep : ℕ → Type 0) (n : ℕ) (old new : List ℕ) : Type 0 where
  pub length_is : length new ≡ length old
  pub done : (k : ℕ) → k < n → (get_or new k 0 ≢ 0) ↔ ((get_or old k 0 ≢ 0) × keep k)
  pub rest : (k : ℕ) → n ≤ k → get_or new k 0 ≡ get_or old k 0

module _ (keep : ℕ → Type 0) where
  pub cleared_none : (old : List ℕ) → AreCleared keep 0 old old
  cleared_none old = record { length_is = refl; done = λ k lt. absurd (omega (arith, lt)); rest = λ k le. refl }

  grown : (n : ℕ) (old now new : List ℕ) → AreCleared keep n old now → length new ≡ length now
      → ((k : ℕ) → k ≢ n → get_or new k 0 ≡ get_or now k 0) → ((get_or new n 0 ≢ 0) ↔ ((get_or old n 0 ≢ 0) × keep n)) → AreCleared keep (n + 1) old new
  grown n old now new are same others here = record {
    length_is = same ∙ are.length_is;
    done = λ k lt. elim (cases_lt k n) [
      | inl below ↦ subst (λ (b : ℕ). (b ≢ 0) ↔ ((get_or old k 0 ≢ 0) × keep k)) (sym (others k (λ e. omega (arith, e, below)))) (are.done k below)
      | inr from ↦
          let is : n ≡ k = omega (arith, from, lt) in
          subst (λ (m : ℕ). (get_or new m 0 ≢ 0) ↔ ((get_or old m 0 ≢ 0) × keep m)) is here
    ];
    rest = λ k le. others k (λ e. omega (arith, e, le)) ∙ are.rest k (omega (arith, le));
  }

  pub cleared_kept : (n : ℕ) (old now : List ℕ) → keep n → AreCleared keep n old now → AreCleared keep (n + 1) old now
  cleared_kept n old now kept are =
      grown n old now now are refl (λ k e. refl)
      (λ x. (λ z. x (are.rest n (omega arith) ∙ z), kept), λ x z. x.0 (sym (are.rest n (omega arith)) ∙ z))

  pub cleared_one : (n : ℕ) (old now : List ℕ) → n < length now → (keep n → ⊥) → AreCleared keep n old now → AreCleared keep (n + 1) old (set now n 0)
  cleared_one n old now lt lost are =
      grown n old now (set now n 0) are (length-set now n 0) (λ k e. get_or-set_other now n k 0 0 e)
      (λ x. absurd (x (get_or-set_same now n 0 0 lt)), λ x. absurd (lost x.1))

  pub cleared_all : (n : ℕ) (old new : List ℕ) → length old ≡ n → AreCleared keep n old new → AreMarked (length old) (λ row. (get_or old row 0 ≢ 0) × keep row) new
  cleared_all n old new same are = record { one_each = are.length_is; exact = λ row lt. are.done row (omega (arith, lt, same)) }
