-- Joints where one value alone is left.
use Rattle.std.proofs.Common.{◌≡◌, inl, inr, ℕ, zero, suc, ◌+◌, ◌*◌, ◌<◌, ◌≤◌, Bool, List, [], ◌∷◌, ◌++◌, length, get_or, drop, add-one, refl, ap, sym, ◌∙◌, subst, arith, length-append}
use Rattle.std.specs.Prelude.{Contains}
use Rattle.std.proofs.Math.Seq.{drop-cons, take-length, get_or-append_seam}
use Rattle.std.proofs.lemmas.Bool.{cases_eq, cases_lt}
use Rattle.std.proofs.lemmas.List.{take-append-le, get_or_append_left}
use Rattle.reo_net_base.specs.Net.{Net}
use Rattle.reo_joint_values.specs.Values.{Names, Choice}
use Rattle.reo_rows.specs.Sets.{code_of}
use Rattle.reo_search.specs.choices.Remaining.{choices_of}
use Rattle.reo_search.specs.choices.Trying.{HasCodes, AreSingles, CoverWith}

-- The first of the lists that are still to be gone through.
pub choices_rest : (left : List (List ℕ)) (i : ℕ) → i < length left → choices_of (drop i left) ≡ length (get_or left i []) * choices_of (drop (i + 1) left)
choices_rest left i lt = ap choices_of (drop-cons left i [] lt) ∙ ap (λ (k : ℕ). length (get_or left i []) * choices_of (drop k left)) (sym (add-one i))

one_alone : (xs : List ℕ) → length xs ≡ 1 → xs ≡ get_or xs 0 0 ∷ []
one_alone [] h = absurd (omega arith)
one_alone (x ∷ []) h = refl
one_alone (x ∷ y ∷ xs) h = absurd (omega arith)

-- None came yet.
pub singles_none : (left : List (List ℕ)) (codes : List ℕ) → length codes ≤ length left → AreSingles left codes codes
singles_none left codes le = record {
  within = le;
  longer = omega arith;
  kept = take-length codes;
  same = λ m lt. refl;
  only = λ m ge lt. absurd (omega arith);
  choices = refl;
}

-- One more came.
pub singles_more : (left : List (List ℕ)) (old now : List ℕ) (n x : ℕ) (values : List ℕ) → AreSingles left old now → n ≡ length now → n < length left → values ≡ get_or left n [] → length values ≡ 1 → x ≡ get_or values 0 0
    → AreSingles left old (now ++ x ∷ [])
singles_more left old now n x values s n_is lt values_are one x_is =
    let long : length (now ++ x ∷ []) ≡ n + 1 = length-append now (x ∷ []) ∙ ap (λ (k : ℕ). k + 1) (sym n_is) in
    let alone : get_or left n [] ≡ x ∷ [] = sym values_are ∙ one_alone values one ∙ ap (λ (k : ℕ). k ∷ []) (sym x_is) in
    let count : length (get_or left n []) ≡ 1 = ap length alone in
    record {
      within = omega (arith, long);
      longer = omega (arith, long, s.longer);
      kept = take-append-le (length old) now (x ∷ []) s.longer ∙ s.kept;
      same = λ m m_lt. get_or_append_left now (x ∷ []) 0 m (omega (arith, m_lt, s.longer)) ∙ s.same m m_lt;
      only = λ m ge m_lt. elim (cases_eq m n) [
        | inl last ↦
            let here : get_or (now ++ x ∷ []) m 0 ≡ x = ap (λ (k : ℕ). get_or (now ++ x ∷ []) k 0) (last ∙ n_is) ∙ get_or-append_seam now x [] 0 in
            ap (λ (k : ℕ). get_or left k []) last ∙ alone ∙ ap (λ (k : ℕ). k ∷ []) (sym here)
        | inr other ↦
            let before : m < length now = omega (arith, other, m_lt, long, n_is) in
            s.only m ge before ∙ ap (λ (k : ℕ). k ∷ []) (sym (get_or_append_left now (x ∷ []) 0 m before))
      ];
      choices =
          let rest : ℕ = choices_of (drop (n + 1) left) in
          let here : choices_of (drop n left) ≡ rest = choices_rest left n lt ∙ ap (λ (k : ℕ). k * rest) count ∙ (let e : 1 * rest ≡ rest = omega arith in e) in
          ap (λ (k : ℕ). choices_of (drop k left)) long ∙ sym here ∙ ap (λ (k : ℕ). choices_of (drop k left)) n_is ∙ s.choices;
    }

contained : (xs : List ℕ) (x y : ℕ) → xs ≡ x ∷ [] → Contains xs y → y ≡ x
contained xs x y is h = alone (subst (λ (zs : List ℕ). Contains zs y) is h)
  where
    alone : Contains (x ∷ []) y → y ≡ x
    alone (zero, lt, e) = sym e
    alone (suc k, lt, e) = absurd (omega arith)

module _ (net : Net) (names : Names) (inside : ℕ → Bool) (loops : List ℕ) (left : List (List ℕ)) (old new : List ℕ) (s : AreSingles left old new) where
  -- An assignment that has them has those before.
  pub singles_less : (rows : ℕ → ℕ) (choice : Choice) → HasCodes net names inside loops new rows choice → HasCodes net names inside loops old rows choice
  singles_less rows choice h = record { chosen = h.chosen; codes_are = λ m lt. h.codes_are m (omega (arith, lt, s.longer)) ∙ s.same m lt }

  -- What covers those covers these.
  pub singles_cover : CoverWith net names inside loops old left → CoverWith net names inside loops new left
  singles_cover cover rows choice h = cover rows choice (singles_less rows choice h)

  -- And each that has those before has them.
  pub singles_all : CoverWith net names inside loops old left → length left ≡ length loops → (rows : ℕ → ℕ) (choice : Choice) → HasCodes net names inside loops old rows choice → HasCodes net names inside loops new rows choice
  singles_all cover one_each rows choice h = record {
    chosen = h.chosen;
    codes_are = λ m lt. elim (cases_lt m (length old)) [
      | inl before ↦ h.codes_are m before ∙ sym (s.same m before)
      | inr ge ↦ contained (get_or left m []) (get_or new m 0) (code_of (choice (get_or loops m 0))) (s.only m ge lt) (cover rows choice h m (omega (arith, lt, s.within, one_each)))
    ];
  }
