-- Lists in which no item stands twice.
use Rattle.std.proofs.Common.{◌≡◌, ◌≢◌, inl, inr, ℕ, zero, suc, ◌<◌, ◌≤◌, List, [], ◌∷◌, ◌++◌, length, get_or, refl, ap, sym, ◌∙◌, arith, add-one, below_more, length-append}
use Rattle.std.specs.Prelude.{Contains}
use Rattle.std.specs.List.{remove}
use Rattle.std.proofs.Math.Seq.{get_or-append_seam}
use Rattle.std.proofs.lemmas.Bool.{cases_eq, cases_lt}
use Rattle.std.proofs.lemmas.List.{get_or_default, get_or_append_left}
use Rattle.std.proofs.lemmas.List.Edits.{length-remove, get_or-remove_below, get_or-remove_above}
use Rattle.reo_values.specs.declared.value.Value.{Value}
use Rattle.reo_joint_values.specs.Many.{AreDistinct}

-- With an item that was not there, none stands twice.
pub distinct_push : (items : List Value) (item : Value) → (Contains items item → ⊥) → AreDistinct items → AreDistinct (items ++ item ∷ [])
distinct_push items item new apart m n d lt n_in =
    let count = length-append items (item ∷ []) in
    let left : (k : ℕ) → k < length items → get_or (items ++ item ∷ []) k d ≡ get_or items k d = λ k k_in. get_or_append_left items (item ∷ []) d k k_in in
    below_more (λ (n : ℕ). (m : ℕ) → m < n → get_or (items ++ item ∷ []) m d ≢ get_or (items ++ item ∷ []) n d) (length items)
    (λ n n_lt m m_lt same. apart m n d m_lt n_lt (sym (left m (omega arith)) ∙ same ∙ left n n_lt))
    (λ m m_lt same. new (m, m_lt, get_or_default items m item d m_lt ∙ sym (left m m_lt) ∙ same ∙ get_or-append_seam items item [] d))
    n (omega (arith, n_in, count)) m lt

-- What is in a list and is not the item of a place is still there without that place.
still_there : (ys : List Value) (p : ℕ) → p < length ys → (y : Value) (q : ℕ) → q < length ys → get_or ys q y ≡ y → get_or ys p y ≢ y → Contains (remove ys p) y
still_there ys p p_in y zero q_in is apart =
    let count = length-remove ys p p_in in
    elim (cases_eq p zero) [
      | inl same ↦ absurd (apart (ap (λ (k : ℕ). get_or ys k y) same ∙ is))
      | inr other ↦ let lt : zero < p = omega (arith, other) in (zero, omega (arith, count), get_or-remove_below ys p y zero lt p_in ∙ is)
    ]
still_there ys p p_in y (suc q) q_in is apart =
    let count = length-remove ys p p_in in
    elim (cases_lt (suc q) p) [
      | inl lt ↦ (suc q, omega (arith, count, lt), get_or-remove_below ys p y (suc q) lt p_in ∙ is)
      | inr le ↦ elim (cases_eq p (suc q)) [
        | inl same ↦ absurd (apart (ap (λ (k : ℕ). get_or ys k y) same ∙ is))
        | inr other ↦ let p_le : p ≤ q = omega (arith, le, other) in (q, omega (arith, count), get_or-remove_above ys p y q p_le p_in ∙ ap (λ (k : ℕ). get_or ys k y) (add-one q) ∙ is)
      ]
    ]

-- Distinct items of another list are at most as many.
pub distinct_fewer : (xs ys : List Value) → AreDistinct xs → ((x : Value) → Contains xs x → Contains ys x) → length xs ≤ length ys
distinct_fewer [] ys distinct within = omega arith
distinct_fewer (x ∷ xs) ys distinct within =
    let has : Contains ys x = within x (zero, omega arith, refl) in
    let p : ℕ = has.0 in
    let rest : length xs ≤ length (remove ys p) = distinct_fewer xs (remove ys p) (λ m n d lt n_in. distinct (suc m) (suc n) d (omega arith) (omega arith)) (λ y y_in.
    let there : Contains ys y = within y (suc y_in.0, omega (arith, y_in.1), y_in.2) in
    still_there ys p has.1 y there.0 there.1 there.2 (λ same.
    distinct zero (suc y_in.0) y (omega arith) (omega (arith, y_in.1)) (sym has.2 ∙ get_or_default ys p x y has.1 ∙ same ∙ sym y_in.2))) in
    omega (arith, rest, length-remove ys p has.1)
