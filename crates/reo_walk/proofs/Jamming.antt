-- Whether one of some rows jams.
use Rattle.std.proofs.Common.{◌≡◌, ◌⊎◌, inl, inr, ◌↔◌, ℕ, ◌<◌, IsTrue, Bool, ◌||◌, List, [], ◌∷◌, ◌++◌, length, get_or, sym, subst, arith, length-append}
use Rattle.std.proofs.lemmas.Bool.{cases_eq, or_cases}
use Rattle.std.proofs.Math.Seq.{get_or-append_seam}
use Rattle.std.proofs.lemmas.List.{get_or_append_left}
use Rattle.reo_net_base.specs.Net.{Net}
use Rattle.reo_walk.specs.Arranged.{IsJamRow}
use Rattle.std.proofs.lemmas.Bool.{or_left, or_right}

-- One of the rows of some sides jams.
abbrev pub SomeJams : Net → List ℕ → List ℕ → Type 0
SomeJams net sides rows = (m : ℕ) × (m < length sides) × IsJamRow net (get_or sides m 0) (get_or rows m 0)

module _ (net : Net) (sides rows : List ℕ) (side row : ℕ) (count : length rows ≡ length sides) where
  some_before : SomeJams net sides rows → SomeJams net (sides ++ side ∷ []) (rows ++ row ∷ [])
  some_before (m, lt, jam) = (
    m,
    omega (arith, length-append sides (side ∷ [])),
    subst (λ (r : ℕ). IsJamRow net (get_or (sides ++ side ∷ []) m 0) r) (sym (get_or_append_left rows (row ∷ []) 0 m (omega (arith, count))))
        (subst (λ (s : ℕ). IsJamRow net s (get_or rows m 0)) (sym (get_or_append_left sides (side ∷ []) 0 m lt)) jam),
  )

  some_here : IsJamRow net side row → SomeJams net (sides ++ side ∷ []) (rows ++ row ∷ [])
  some_here jam = (
    length sides,
    omega (arith, length-append sides (side ∷ [])),
    subst (λ (r : ℕ). IsJamRow net (get_or (sides ++ side ∷ []) (length sides) 0) r) (sym (rw (sym count) (get_or-append_seam rows row [] 0)))
        (subst (λ (s : ℕ). IsJamRow net s row) (sym (get_or-append_seam sides side [] 0)) jam),
  )

  some_cases : SomeJams net (sides ++ side ∷ []) (rows ++ row ∷ []) → SomeJams net sides rows ⊎ IsJamRow net side row
  some_cases (m, lt, jam) = elim (cases_eq m (length sides)) [
    | inl last ↦
        let last_row : m ≡ length rows = omega (arith, count) in
        let s : get_or (sides ++ side ∷ []) m 0 ≡ side = rw last (get_or-append_seam sides side [] 0) in
        let r : get_or (rows ++ row ∷ []) m 0 ≡ row = rw last_row (get_or-append_seam rows row [] 0) in
        inr (subst (λ (x : ℕ). IsJamRow net side x) r (subst (λ (x : ℕ). IsJamRow net x (get_or (rows ++ row ∷ []) m 0)) s jam))
    | inr other ↦
        let before : m < length sides = omega (arith, length-append sides (side ∷ [])) in
        inl (
          m,
          before,
          subst (λ (x : ℕ). IsJamRow net (get_or sides m 0) x) (get_or_append_left rows (row ∷ []) 0 m (omega (arith, count)))
              (subst (λ (x : ℕ). IsJamRow net x (get_or (rows ++ row ∷ []) m 0)) (get_or_append_left sides (side ∷ []) 0 m before) jam),
        )
  ]

  pub jam_more : (a b : Bool) → IsTrue a ↔ SomeJams net sides rows → IsTrue b ↔ IsJamRow net side row → IsTrue (a || b) ↔ SomeJams net (sides ++ side ∷ []) (rows ++ row ∷ [])
  jam_more a b old here = (
    λ t. elim (or_cases a b t) [ inl x ↦ some_before (old.0 x) | inr y ↦ some_here (here.0 y) ],
    λ s. elim (some_cases s) [ inl x ↦ or_left a b (old.1 x) | inr y ↦ or_right a b (here.1 y) ],
  )
