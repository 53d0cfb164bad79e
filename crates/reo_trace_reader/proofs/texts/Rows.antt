-- Texts in a row, with single spaces between, tell what they are the texts of.
use Rattle.std.proofs.Common.{◌≡◌, ◌∙◌, ℕ, List, [], ◌∷◌, ◌++◌, drop, ap, refl, sym, append_assoc}
use Rattle.std.specs.List.{All}
use Rattle.std.proofs.lemmas.List.Elements.{All-head, All-tail}
use Rattle.reo_trace.specs.Spaced.{spaced}

-- texts that can be told where this kind of rest comes after them, and what comes after the last text
pub record AreToldApart {X : Type 0} (text : X → List ℕ) (Fits : X → Type 0) (Rest : List ℕ → Type 0) (last : List ℕ) : Type 0 where
  pub unique : (x y : X) (r s : List ℕ) → Fits x → Fits y → Rest r → Rest s → text x ++ r ≡ text y ++ s → (x ≡ y) × (r ≡ s)
  pub after_space : (r : List ℕ) → Rest (32 ∷ r)
  pub after_last : (r : List ℕ) → Rest (last ++ r)
  pub more_no-last : (y : X) (r s : List ℕ) → Fits y → Rest r → 32 ∷ (text y ++ r) ≡ last ++ s → ⊥

module _ {X : Type 0} (text : X → List ℕ) (Fits : X → Type 0) (Rest : List ℕ → Type 0) (last : List ℕ) (told : AreToldApart text Fits Rest last) where
  -- the first text of a row, and what comes after it
  pub row_head : (x : X) (xs : List X) (r : List ℕ) → (more : List ℕ) × (spaced text (x ∷ xs) ++ (last ++ r) ≡ text x ++ more) × Rest more
  row_head x [] r = (last ++ r, refl, told.after_last r)
  row_head x (y ∷ ys) r = (32 ∷ (spaced text (y ∷ ys) ++ (last ++ r)), append_assoc (text x) (32 ∷ spaced text (y ∷ ys)) (last ++ r), told.after_space _)

  no_more : (x y : X) (ys : List X) (r s : List ℕ) → Fits y → last ++ r ≡ 32 ∷ (spaced text (y ∷ ys) ++ (last ++ s)) → ⊥
  no_more x y ys r s h e =
      let head = row_head y ys s in
      told.more_no-last y head.0 r h head.2 (sym (e ∙ ap (λ l. 32 ∷ l) head.1))

  longer : (x y : X) (ys : List X) (r : List ℕ) → spaced text (x ∷ y ∷ ys) ++ r ≡ text x ++ (32 ∷ (spaced text (y ∷ ys) ++ r))
  longer x y ys r = append_assoc (text x) (32 ∷ spaced text (y ∷ ys)) r

  -- a row and what comes after its last text
  pub row_unique : (x y : X) (xs ys : List X) (r s : List ℕ) → All Fits (x ∷ xs) → All Fits (y ∷ ys)
      → spaced text (x ∷ xs) ++ (last ++ r) ≡ spaced text (y ∷ ys) ++ (last ++ s) → (x ∷ xs ≡ y ∷ ys) × (last ++ r ≡ last ++ s)
  row_unique x y [] [] r s h g e =
      let parts = told.unique x y (last ++ r) (last ++ s) (All-head Fits x [] h) (All-head Fits y [] g) (told.after_last r) (told.after_last s) e in
      ((λ i. parts.0 i ∷ []), parts.1)
  row_unique x y [] (z ∷ zs) r s h g e =
      let parts = told.unique x y (last ++ r) (32 ∷ (spaced text (z ∷ zs) ++ (last ++ s))) (All-head Fits x [] h) (All-head Fits y (z ∷ zs) g)
      (told.after_last r) (told.after_space _) (e ∙ longer y z zs (last ++ s)) in
      absurd (no_more x z zs r s (All-head Fits z zs (All-tail Fits y (z ∷ zs) g)) parts.1)
  row_unique x y (z ∷ zs) [] r s h g e =
      let parts = told.unique x y (32 ∷ (spaced text (z ∷ zs) ++ (last ++ r))) (last ++ s) (All-head Fits x (z ∷ zs) h) (All-head Fits y [] g)
      (told.after_space _) (told.after_last s) (sym (longer x z zs (last ++ r)) ∙ e) in
      absurd (no_more y z zs s r (All-head Fits z zs (All-tail Fits x (z ∷ zs) h)) (sym parts.1))
  row_unique x y (w ∷ ws) (z ∷ zs) r s h g e =
      let parts = told.unique x y (32 ∷ (spaced text (w ∷ ws) ++ (last ++ r))) (32 ∷ (spaced text (z ∷ zs) ++ (last ++ s))) (All-head Fits x (w ∷ ws) h) (All-head Fits y (z ∷ zs) g)
      (told.after_space _) (told.after_space _) (sym (longer x w ws (last ++ r)) ∙ e ∙ longer y z zs (last ++ s)) in
      let more = row_unique w z ws zs r s (All-tail Fits x (w ∷ ws) h) (All-tail Fits y (z ∷ zs) g) (ap (λ l. drop 1 l) parts.1) in
      ((λ i. parts.0 i ∷ more.0 i), more.1)
