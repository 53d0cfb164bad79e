-- Numbers of labels.
use Rattle.std.proofs.Common.{◌≡◌, ◌≢◌, inl, inr, ℕ, ◌+◌, ◌<◌, ◌≤◌, ◌↔◌, List, [], ◌∷◌, ◌++◌, Option, Some, None, length, get_or, set, refl, ap, sym, ◌∙◌, arith, below_more, length-append, length-set, get_or-set_same, get_or-set_other}
use Rattle.std.specs.Prelude.{unwrap_or, max}
use Rattle.std.proofs.Math.Seq.{get_or-append_seam}
use Rattle.std.proofs.lemmas.Bool.{cases_eq, cases_lt}
use Rattle.std.proofs.lemmas.List.{get_or_append_left}
use Rattle.reo_net_laws.specs.Knots.{AreNumbers}
use Rattle.reo_net_laws.specs.KnotLabels.{AreInRange, same_label}

-- The labels of the first n sides have these numbers, and no other label has one.
pub record AreKnown (labels numbers : List ℕ) (n : ℕ) (known : List (Option ℕ)) : Type 0 where
  pub one_each : length known ≡ length labels
  pub told : (s : ℕ) → s < n → get_or known (get_or labels s 0) None ≡ Some (get_or numbers s 0)
  pub given : (l m : ℕ) → l < length labels → get_or known l None ≡ Some m → (s : ℕ) × (s < n) × (get_or labels s 0 ≡ l) × (get_or numbers s 0 ≡ m)

-- What a label's number is: one that a side before has, or the next one.
pub record IsNumbered (labels numbers : List ℕ) (n count number : ℕ) : Type 0 where
  pub at_most : number ≤ count
  pub before : number < count → (s : ℕ) × (s < n) × (get_or labels s 0 ≡ get_or labels n 0) × (get_or numbers s 0 ≡ number)
  pub next : number ≡ count → (s : ℕ) → s < n → get_or labels s 0 ≢ get_or labels n 0

-- One more side, whose label has a number or gets the next one.
module _ (labels numbers : List ℕ) (n count : ℕ) (are : AreNumbers (same_label labels) n numbers count) where
  module _ (number : ℕ) (is : IsNumbered labels numbers n count number) where
    old_at : (s : ℕ) → s < n → get_or (numbers ++ number ∷ []) s 0 ≡ get_or numbers s 0
    old_at s lt = get_or_append_left numbers (number ∷ []) 0 s (omega (arith, are.one_each))

    new_at : get_or (numbers ++ number ∷ []) n 0 ≡ number
    new_at = ap (λ (k : ℕ). get_or (numbers ++ number ∷ []) k 0) (sym are.one_each) ∙ get_or-append_seam numbers number [] 0

    -- A side before has the new number exactly where it has the new label.
    same_new : (s : ℕ) → s < n → (get_or numbers s 0 ≡ number) ↔ (get_or labels s 0 ≡ get_or labels n 0)
    same_new s lt = elim (cases_lt number count) [
      | inl below ↦
          let it = is.before below in (
            λ e. (are.same s it.0 lt it.1).0 (e ∙ sym it.3) ∙ it.2,
            λ e. (are.same s it.0 lt it.1).1 (e ∙ sym it.2) ∙ it.3,
          )
      | inr above ↦
          let last : number ≡ count = omega (arith, is.at_most) in (
            λ e. absurd (omega (arith, are.in_range s lt)),
            λ e. absurd (is.next last s lt e),
          )
    ]

    pub more_numbered : AreNumbers (same_label labels) (n + 1) (numbers ++ number ∷ []) (max count (number + 1))
    more_numbered = record {
      one_each = omega (arith, length-append numbers (number ∷ []), are.one_each);
      in_range = below_more (λ (s : ℕ). get_or (numbers ++ number ∷ []) s 0 < max count (number + 1)) n (λ s lt. rw (old_at s lt) (omega (arith, are.in_range s lt))) (rw new_at (omega arith));
      same = λ s t s_in t_in.
          elim (cases_lt s n) [
            | inl s_old ↦ elim (cases_lt t n) [
              | inl t_old ↦ rw (old_at s s_old, old_at t t_old) (are.same s t s_old t_old)
              | inr t_new ↦ let t_is : t ≡ n = omega arith in rw t_is (rw (old_at s s_old, new_at) (same_new s s_old))
            ]
            | inr s_new ↦
                let s_is : s ≡ n = omega arith in elim (cases_lt t n) [
                  | inl t_old ↦
                      rw s_is (rw (old_at t t_old, new_at) (λ e. sym ((same_new t t_old).0 (sym e)), λ e. sym ((same_new t t_old).1 (sym e))))
                  | inr t_new ↦ let t_is : t ≡ n = omega arith in rw (s_is, t_is) (λ e. refl, λ e. refl)
                ]
          ];
      each = λ k lt. elim (cases_lt k count) [
        | inl old ↦ let it = are.each k old in (it.0, omega (arith, it.1), old_at it.0 it.1 ∙ it.2)
        | inr new ↦ (n, omega arith, new_at ∙ last_is k lt new)
      ];
      by_least = λ s k s_in lt. elim (cases_lt s n) [
        | inl s_old ↦
            let it = are.by_least s k s_old (rw (old_at s s_old) at lt) in
            (it.0, it.1, old_at it.0 (omega (arith, it.1)) ∙ it.2)
        | inr s_new ↦
            let s_is : s ≡ n = omega arith in
            let at_last = rw s_is at lt in
            let below : k < number = rw new_at at at_last in
            let it = are.each k (omega (arith, is.at_most)) in
            (it.0, omega (arith, it.1), old_at it.0 it.1 ∙ it.2)
      ];
    }
      where
        last_is : (k : ℕ) → k < max count (number + 1) → count ≤ k → number ≡ k
        last_is k lt new = omega (arith, is.at_most)

  module _ (known : List (Option ℕ)) (in_range : AreInRange labels) (n_in : n < length labels) (knows : AreKnown labels numbers n known) where
    number_is : (told : Option ℕ) → get_or known (get_or labels n 0) None ≡ told → IsNumbered labels numbers n count (unwrap_or told count)
    number_is None e = record {
      at_most = omega arith;
      before = λ lt. absurd (omega arith);
      next = λ last s lt same. none_some (get_or numbers s 0) (sym e ∙ ap (λ (l : ℕ). get_or known l None) (sym same) ∙ knows.told s lt);
    }
      where
        none_some : (m : ℕ) → None ≡ Some m → ⊥
        none_some m e = cc
    number_is (Some m) e =
        let it = knows.given (get_or labels n 0) m (in_range n n_in) e in
        let below = are.in_range it.0 it.1 in
        record {
          at_most = omega (arith, it.3, below);
          before = λ lt. it;
          next = λ last. absurd (omega (arith, it.3, below));
        }

    pub next_number : IsNumbered labels numbers n count (unwrap_or (get_or known (get_or labels n 0) None) count)
    next_number = number_is (get_or known (get_or labels n 0) None) refl

    module _ (number : ℕ) (number_as : number ≡ unwrap_or (get_or known (get_or labels n 0) None) count) where
      pub more_known : AreKnown labels (numbers ++ number ∷ []) (n + 1) (set known (get_or labels n 0) (Some number))
      more_known = record {
        one_each = length-set known (get_or labels n 0) (Some number) ∙ knows.one_each;
        told = λ s lt. elim (cases_lt s n) [
          | inl old ↦ told_old s old
          | inr new ↦
              let s_is : s ≡ n = omega arith in
              rw s_is (get_or-set_same known (get_or labels n 0) (Some number) None here ∙ ap Some (sym last_at))
        ];
        given = λ l m lt e. elim (cases_eq l (get_or labels n 0)) [
          | inl same ↦ (n, omega arith, sym same, last_at ∙ given_number l m same e)
          | inr other ↦
              let it = knows.given l m lt (sym (get_or-set_other known (get_or labels n 0) l (Some number) None other) ∙ e) in
              (it.0, omega (arith, it.1), it.2, get_or_append_left numbers (number ∷ []) 0 it.0 (omega (arith, are.one_each, it.1)) ∙ it.3)
        ];
      }
        where
          here : get_or labels n 0 < length known
          here = omega (arith, in_range n n_in, knows.one_each)

          last_at : get_or (numbers ++ number ∷ []) n 0 ≡ number
          last_at = ap (λ (k : ℕ). get_or (numbers ++ number ∷ []) k 0) (sym are.one_each) ∙ get_or-append_seam numbers number [] 0

          given_number : (l m : ℕ) → l ≡ get_or labels n 0 → get_or (set known (get_or labels n 0) (Some number)) l None ≡ Some m → number ≡ m
          given_number l m same e =
              let both : Some number ≡ Some m = sym (get_or-set_same known (get_or labels n 0) (Some number) None here) ∙ (rw same at e) in
              cc

          told_old : (s : ℕ) → s < n → get_or (set known (get_or labels n 0) (Some number)) (get_or labels s 0) None ≡ Some (get_or (numbers ++ number ∷ []) s 0)
          told_old s lt =
              let before = knows.told s lt in
              rw (get_or_append_left numbers (number ∷ []) 0 s (omega (arith, are.one_each))) (elim (cases_eq (get_or labels s 0) (get_or labels n 0)) [
                | inl same ↦
                    let told : get_or known (get_or labels n 0) None ≡ Some (get_or numbers s 0) = rw (← same) before in
                    let is : number ≡ get_or numbers s 0 = number_as ∙ ap (λ (t : Option ℕ). unwrap_or t count) told in
                    rw same (get_or-set_same known (get_or labels n 0) (Some number) None here ∙ ap Some is)
                | inr other ↦ get_or-set_other known (get_or labels n 0) (get_or labels s 0) (Some number) None other ∙ before
              ])
