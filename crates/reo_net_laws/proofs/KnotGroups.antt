-- Lists of numbers, one for each knot.
use Rattle.std.proofs.Common.{◌≡◌, inl, inr, ℕ, zero, suc, ◌+◌, ◌<◌, ◌↔◌, List, [], ◌∷◌, ◌++◌, Bool, true, false, cond, length, get_or, refl, ap, sym, ◌∙◌, arith, add-one, zero-add, append-nil, length-append}
use Rattle.std.specs.Prelude.{◌&&◌, Contains}
use Rattle.std.specs.Bool.{◌==◌}
use Rattle.std.specs.List.{filter, range_with_len}
use Rattle.std.specs.List.Sorted.{IsStrictlyIncreasing}
use Rattle.std.proofs.Math.Seq.{get_or-append_seam}
use Rattle.std.proofs.lemmas.Bool.{cases_eq, cases_Bool}
use Rattle.std.proofs.lemmas.List.{get_or_default, get_or_append_left}
use Rattle.std.proofs.lemmas.List.Elements.{filter-append, Contains-push, Contains-push_cases, Contains-append_left}
use Rattle.reo_values.proofs.Naturals.{range_more}
use Rattle.reo_net_laws.specs.KnotGroups.{AreEmpty, IsAdded, ArePicked}
use Rattle.reo_net_laws.specs.Knots.{AreThose}

-- What is picked of one number more.
filter_suc : (test : ℕ → Bool) (n : ℕ) → filter test (range_with_len 0 (suc n)) ≡ filter test (range_with_len 0 n) ++ cond (test n) (n ∷ []) []
filter_suc test n = ap (filter test) (range_more 0 n) ∙ filter-append test (range_with_len 0 n) ((0 + n) ∷ []) ∙ rw zero-add refl

-- Nothing is picked of no numbers.
pub none_picked : (picks : ℕ → ℕ → Bool) (groups : List (List ℕ)) (count : ℕ) → AreEmpty groups count → ArePicked picks 0 groups count
none_picked picks groups count are = record { one_each = are.one_each; each = are.empty }

-- One number more is added to the list of the knot that picks it.
pub more_picked : (picks : ℕ → ℕ → Bool) (n : ℕ) (old new : List (List ℕ)) (count knot : ℕ) (wanted : Bool) → ArePicked picks n old count → IsAdded old new knot n wanted
    → ((k : ℕ) → k < count → picks k n ≡ (wanted && (knot == k))) → ArePicked picks (n + 1) new count
more_picked picks n old new count knot wanted are added here = record {
  one_each = added.one_each ∙ are.one_each;
  each = λ k d lt.
      let k_in : k < length old = omega (arith, are.one_each) in
      let test = here k lt in
      added.each k d k_in ∙ ap (λ (xs : List ℕ). xs ++ cond (wanted && (knot == k)) (n ∷ []) []) (are.each k d lt)
      ∙ ap (λ (t : Bool). filter (picks k) (range_with_len 0 n) ++ cond t (n ∷ []) []) (sym test) ∙ sym (rw add-one (filter_suc (picks k) n));
}

-- Tests that agree pick the same.
pub same_picked : (p q : ℕ → Bool) (n : ℕ) → ((j : ℕ) → j < n → p j ≡ q j) → filter p (range_with_len 0 n) ≡ filter q (range_with_len 0 n)
same_picked p q zero h = refl
same_picked p q (suc n) h =
    let before = same_picked p q n (λ j lt. h j (omega arith)) in
    let here = h n (omega arith) in
    filter_suc p n ∙ (λ i. before i ++ cond (here i) (n ∷ []) []) ∙ sym (filter_suc q n)

-- One greater number at the end.
increasing_more : (xs : List ℕ) (n : ℕ) → IsStrictlyIncreasing xs → ((x : ℕ) → Contains xs x → x < n) → IsStrictlyIncreasing (xs ++ n ∷ [])
increasing_more xs n up below k lt =
    let total = length-append xs (n ∷ []) in
    let k_in : k < length xs = omega arith in
    elim (cases_eq (k + 1) (length xs)) [
      | inl last ↦
          rw (get_or_append_left xs (n ∷ []) 0 k k_in) (rw last (rw (get_or-append_seam xs n [] 0) (below (get_or xs k 0) (k, k_in, get_or_default xs k (get_or xs k 0) 0 k_in))))
      | inr more ↦
          let next : k + 1 < length xs = omega arith in
          rw (get_or_append_left xs (n ∷ []) 0 k k_in, get_or_append_left xs (n ∷ []) 0 (k + 1) next) (up k next)
    ]

picked_below : (test : ℕ → Bool) (n : ℕ) → AreThose (λ j. (j < n) × (test j ≡ true)) (filter test (range_with_len 0 n))
picked_below test zero = record { increasing = λ k lt. absurd (omega arith); exact = λ x. (λ h. absurd (omega (arith, h.1)), λ h. absurd (omega (arith, h.0))) }
picked_below test (suc n) =
    let before = picked_below test n in
    rw (filter_suc test n) (elim (cases_Bool (test n)) [
      | inl is ↦ rw is (record {
        increasing = increasing_more (filter test (range_with_len 0 n)) n before.increasing (λ x h. ((before.exact x).0 h).0);
        exact = λ x. (
          λ h. elim (Contains-push_cases (filter test (range_with_len 0 n)) n x h) [
            | inl there ↦ let it = (before.exact x).0 there in (omega (arith, it.0), it.1)
            | inr same ↦ (omega arith, ap test (sym same) ∙ is)
          ],
          λ h. elim (cases_eq x n) [
            | inl same ↦ rw same (Contains-push (filter test (range_with_len 0 n)) n)
            | inr other ↦ Contains-append_left (filter test (range_with_len 0 n)) (n ∷ []) x ((before.exact x).1 (omega (arith, h.0), h.1))
          ],
        );
      })
      | inr not_it ↦ rw not_it (rw (append-nil (filter test (range_with_len 0 n))) (record {
        increasing = before.increasing;
        exact = λ x. (
          λ h. let it = (before.exact x).0 h in (omega (arith, it.0), it.1),
          λ h. (before.exact x).1 (elim (cases_eq x n) [ inl same ↦ absurd (false_true (sym not_it ∙ ap test (sym same) ∙ h.1)) | inr other ↦ (omega (arith, h.0), h.1) ]),
        );
      }))
    ])
  where
    false_true : false ≡ true → ⊥
    false_true e = cc

-- What is picked are those numbers of which something holds, where the test says so.
pub picked_those : (holds : ℕ → Type 0) (test : ℕ → Bool) (n : ℕ) → ((x : ℕ) → ((x < n) × (test x ≡ true)) ↔ holds x) → AreThose holds (filter test (range_with_len 0 n))
picked_those holds test n says =
    let those = picked_below test n in
    record {
      increasing = those.increasing;
      exact = λ x. (λ h. (says x).0 ((those.exact x).0 h), λ h. (those.exact x).1 ((says x).1 h));
    }
