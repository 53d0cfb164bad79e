-- Assignments with some values at the first loop joints.
use Rattle.std.proofs.Common.{◌≡◌, ◌⊎◌, inl, inr, ℕ, ◌+◌, ◌<◌, Bool, List, [], ◌∷◌, ◌++◌, length, get_or, ap, sym, ◌∙◌, subst, arith, length-append}
use Rattle.std.specs.Prelude.{Contains}
use Rattle.std.proofs.lemmas.Bool.{cases_eq}
use Rattle.std.proofs.lemmas.List.{get_or_append_left}
use Rattle.std.proofs.Math.Seq.{get_or-append_seam}
use Rattle.std.proofs.lemmas.List.Elements.{Contains-push, Contains-push_cases, Contains-append_left}
use Rattle.reo_net_base.specs.Net.{Net}
use Rattle.reo_joint_values.specs.Values.{Names, Choice}
use Rattle.reo_rows.specs.Sets.{code_of}
use Rattle.reo_search.specs.choices.Trying.{HasCodes, HasNextOf, CoverWith}

module _ (net : Net) (names : Names) (inside : ℕ → Bool) (loops codes : List ℕ) where
  -- No assignment has a value of none.
  pub next_none : (rows : ℕ → ℕ) (choice : Choice) → HasNextOf net names inside loops codes [] rows choice → ⊥
  next_none rows choice h = let lt = h.next.1 in omega (arith, lt)

  -- With one value more, those before are still there.
  pub next_left : (list : List ℕ) (x : ℕ) (rows : ℕ → ℕ) (choice : Choice) → HasNextOf net names inside loops codes list rows choice → HasNextOf net names inside loops codes (list ++ x ∷ []) rows choice
  next_left list x rows choice h = record { has = h.has; next = Contains-append_left list (x ∷ []) (code_of (choice (get_or loops (length codes) 0))) h.next }

  -- And those that have it.
  pub next_right : (list : List ℕ) (x : ℕ) (rows : ℕ → ℕ) (choice : Choice) → HasCodes net names inside loops (codes ++ x ∷ []) rows choice → HasNextOf net names inside loops codes (list ++ x ∷ []) rows choice
  next_right list x rows choice h =
      let long : length (codes ++ x ∷ []) ≡ length codes + 1 = length-append codes (x ∷ []) in
      let here : code_of (choice (get_or loops (length codes) 0)) ≡ x = h.codes_are (length codes) (omega (arith, long)) ∙ get_or-append_seam codes x [] 0 in
      record {
        has = record { chosen = h.chosen; codes_are = λ m lt. h.codes_are m (omega (arith, lt, long)) ∙ get_or_append_left codes (x ∷ []) 0 m lt };
        next = subst (Contains (list ++ x ∷ [])) (sym here) (Contains-push list x);
      }

  -- And no others.
  pub next_cases : (list : List ℕ) (x : ℕ) (rows : ℕ → ℕ) (choice : Choice) → HasNextOf net names inside loops codes (list ++ x ∷ []) rows choice
      → HasNextOf net names inside loops codes list rows choice ⊎ HasCodes net names inside loops (codes ++ x ∷ []) rows choice
  next_cases list x rows choice h = elim (Contains-push_cases list x (code_of (choice (get_or loops (length codes) 0))) h.next) [
    | inl there ↦ inl (record { has = h.has; next = there })
    | inr same ↦ inr (record {
      chosen = h.has.chosen;
      codes_are = λ m lt.
          let long : length (codes ++ x ∷ []) ≡ length codes + 1 = length-append codes (x ∷ []) in
          elim (cases_eq m (length codes)) [
            | inl last ↦ ap (λ (k : ℕ). code_of (choice (get_or loops k 0))) last ∙ sym same ∙ sym (get_or-append_seam codes x [] 0) ∙ ap (λ (k : ℕ). get_or (codes ++ x ∷ []) k 0) (sym last)
            | inr other ↦
                let m_lt : m < length codes = omega (arith, lt, long) in
                h.has.codes_are m m_lt ∙ sym (get_or_append_left codes (x ∷ []) 0 m m_lt)
          ];
    })
  ]

  -- All values that are left were tried.
  pub next_all : (left : List (List ℕ)) → CoverWith net names inside loops codes left → length codes < length loops → (rows : ℕ → ℕ) (choice : Choice) → HasCodes net names inside loops codes rows choice
      → HasNextOf net names inside loops codes (get_or left (length codes) []) rows choice
  next_all left cover lt rows choice h = record { has = h; next = cover rows choice h (length codes) lt }

  -- What covers those with these values covers those with one value more.
  pub cover_more : (left : List (List ℕ)) (x : ℕ) → CoverWith net names inside loops codes left → CoverWith net names inside loops (codes ++ x ∷ []) left
  cover_more left x cover rows choice h = cover rows choice (next_right [] x rows choice h).has
