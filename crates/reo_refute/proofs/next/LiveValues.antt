-- Live values among the values of a joint.
use Rattle.std.proofs.Common.{◌≡◌, inl, inr, ℕ, zero, suc, ◌+◌, ◌-◌, ◌<◌, ◌≤◌, List, [], ◌∷◌, Bool, true, false, length, get_or, filter, map, Contains, refl, ap, sym, ◌∙◌, subst, arith}
use Rattle.std.specs.List.{range_with_len}
use Rattle.std.proofs.lemmas.Bool.{cases_Bool}
use Rattle.std.proofs.lemmas.List.{length-append, get_or_append_left, get_or-append_right, get_or_default}
use Rattle.std.proofs.lemmas.List.FromFn.{get_or-map-range_with_len, length-map-range_with_len}
use Rattle.reo_values.specs.declared.value.Value.{Value}
use Rattle.reo_joint_values.specs.declared.value.JointValue.{JointValue}
use Rattle.reo_joint_values.specs.declared.value.JointValue.TheVariants.{Flow, RG, GR, GG, Jam}
use Rattle.reo_joint_values.specs.Values.{Family}
use Rattle.reo_refute_base.specs.Items.{Lists, items_at}
use Rattle.reo_refute_base.specs.Live.{values_of, live_at}
use Rattle.reo_refute_base.proofs.laws.Branches.{filter_has}
use Rattle.reo_refute_base.proofs.laws.Listing.{first_or}

-- The values in which nothing flows.
abbrev still : List JointValue
still = RG ∷ GR ∷ GG ∷ Jam ∷ []

pub still_last : (place : ℕ) → 3 ≤ place → Jam ≡ get_or still place Jam
still_last zero le = absurd (omega (arith, le))
still_last (suc zero) le = absurd (omega (arith, le))
still_last (suc (suc zero)) le = absurd (omega (arith, le))
still_last (suc (suc (suc zero))) le = refl
still_last (suc (suc (suc (suc k)))) le = refl

module _ (lists : Lists) (joint : ℕ) (list : List Value) (lt : joint < length lists) (is : list ≡ get_or lists joint list) where
  pub list_is : list ≡ items_at lists joint
  list_is = is ∙ get_or_default lists joint list [] lt

  pub count_is : length list + 4 ≡ length (values_of lists joint)
  count_is =
      let all : length (values_of lists joint) ≡ length (map Flow (range_with_len 0 (length (items_at lists joint)))) + 4 = length-append (map Flow (range_with_len 0 (length (items_at lists joint)))) still in
      omega (arith, all, length-map-range_with_len Flow 0 (length (items_at lists joint)), ap (λ (l : List Value). length l) list_is)

  pub flow_at : (place : ℕ) → place < length list → Flow place ≡ get_or (values_of lists joint) place Jam
  flow_at place below =
      let n : ℕ = length (items_at lists joint) in
      let in' : place < n = omega (arith, below, ap (λ (l : List Value). length l) list_is) in
      let long : place < length (map Flow (range_with_len 0 n)) = omega (arith, in', length-map-range_with_len Flow 0 n) in
      sym (get_or_append_left (map Flow (range_with_len 0 n)) still Jam place long ∙ get_or-map-range_with_len Flow 0 n place place Jam in' (omega arith))

  pub rest_at : (place : ℕ) → length list ≤ place → (value : JointValue) → value ≡ get_or still (place - length list) Jam → value ≡ get_or (values_of lists joint) place Jam
  rest_at place past value is_value =
      let n : ℕ = length (items_at lists joint) in
      let same : n ≡ length list = ap (λ (l : List Value). length l) (sym list_is) in
      is_value ∙ ap (λ (m : ℕ). get_or still (place - m) Jam) (sym same)
      ∙ sym (get_or-append_right (map Flow (range_with_len 0 n)) still n place Jam (length-map-range_with_len Flow 0 n) (omega (arith, past, same)))

-- A live value among those of a joint.
pub is_there : (lists : Lists) (f : Family) (j k : ℕ) (v : JointValue) → k < length (values_of lists j) → v ≡ get_or (values_of lists j) k Jam → f j v ≡ true → Contains (live_at lists f j) v
is_there lists f j k v lt is live =
    filter_has (f j) (values_of lists j) v (k, lt, get_or_default (values_of lists j) k v Jam lt ∙ sym is) live

-- What holds of each value that passes a test.
pub of_each : (p : JointValue → Bool) (vs : List JointValue) (P : JointValue → Type 0)
    → ((k : ℕ) → k < length vs → p (get_or vs k Jam) ≡ true → P (get_or vs k Jam)) → (v : JointValue) → Contains (filter p vs) v → P v
of_each p [] P each v has = absurd (omega (arith, has.1))
of_each p (x ∷ vs) P each v has =
    let later : (k : ℕ) → k < length vs → p (get_or vs k Jam) ≡ true → P (get_or vs k Jam) = λ k lt is. each (suc k) (omega (arith, lt)) is in
    elim (cases_Bool (p x)) [
      | inl on ↦ elim (first_or x (filter p vs) v (rw on at has)) [
        | inl same ↦ subst P same (each 0 (omega arith) on)
        | inr more ↦ of_each p vs P later v more
      ]
      | inr off ↦ of_each p vs P later v (rw off at has)
    ]

-- No value passes a test.
pub none_of : (p : JointValue → Bool) (vs : List JointValue) → ((k : ℕ) → k < length vs → p (get_or vs k Jam) ≡ false) → filter p vs ≡ []
none_of p [] none = refl
none_of p (x ∷ vs) none =
    let here : p x ≡ false = none 0 (omega arith) in
    rw here (none_of p vs (λ k lt. none (suc k) (omega (arith, lt))))
