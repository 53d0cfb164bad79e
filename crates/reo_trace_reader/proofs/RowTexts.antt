-- Texts in a row, from the first on.
use Rattle.std.proofs.Common.{◌≡◌, ◌∙◌, ◌<◌, ℕ, List, [], ◌∷◌, ◌++◌, ap, refl, sym, length, drop, append_assoc, append-nil, arith}
use Rattle.std.specs.List.{All}
use Rattle.std.proofs.lemmas.List.Elements.{All-head, All-tail}
use Rattle.reo_trace.specs.Spaced.{spaced}

module _ {X : Type 0} (text : X → List ℕ) where
  -- the texts with a space before each
  abbrev pub tails : List X → List ℕ
  tails [] = []
  tails (x ∷ xs) = 32 ∷ (text x ++ tails xs)

  pub spaced_tails : (x : X) (xs : List X) → spaced text (x ∷ xs) ≡ text x ++ tails xs
  spaced_tails x [] = sym (append-nil (text x))
  spaced_tails x (y ∷ ys) = ap (λ l. text x ++ (32 ∷ l)) (spaced_tails y ys)

  -- one more text
  pub spaced_push : (xs : List X) (y : X) → 0 < length xs → spaced text (xs ++ y ∷ []) ≡ spaced text xs ++ (32 ∷ text y)
  spaced_push [] y some = absurd (omega arith)
  spaced_push (x ∷ []) y some = refl
  spaced_push (x ∷ z ∷ zs) y some =
      ap (λ l. text x ++ (32 ∷ l)) (spaced_push (z ∷ zs) y (omega arith)) ∙ sym (append_assoc (text x) (32 ∷ spaced text (z ∷ zs)) (32 ∷ text y))

  -- a row that was read, one more text of it, and what is left
  pub row_stood : (old mid left new : List ℕ) (xs : List X) (y : X) → 0 < length xs → old ≡ spaced text xs ++ mid → mid ≡ 32 ∷ left → left ≡ text y ++ new
      → old ≡ spaced text (xs ++ y ∷ []) ++ new
  row_stood old mid left new xs y some e f g =
      e ∙ ap (λ l. spaced text xs ++ l) (f ∙ ap (λ l. 32 ∷ l) g)
      ∙ sym (append_assoc (spaced text xs) (32 ∷ text y) new) ∙ sym (ap (λ l. l ++ new) (spaced_push xs y some))

  -- what is left of a row, of which these were read: more of it, and then this
  pub record IsLeft (Is : X → Type 0) (xs made : List X) (left last : List ℕ) : Type 0 where
    pub more : List X
    pub whole : xs ≡ made ++ more
    pub fit : All Is more
    pub stands : left ≡ tails more ++ last

  -- at first all but the first
  pub left_first : (Is : X → Type 0) (x : X) (xs : List X) (old new rest : List ℕ) → All Is (x ∷ xs) → old ≡ spaced text (x ∷ xs) ++ rest
      → (old ≡ text x ++ (tails xs ++ rest)) × Is x × All Is xs
  left_first Is x xs old new rest h e =
      (e ∙ ap (λ l. l ++ rest) (spaced_tails x xs) ∙ append_assoc (text x) (tails xs) rest, All-head Is x xs h, All-tail Is x xs h)

  -- one more text of it, behind a space
  pub left_more : (Is : X → Type 0) (xs made : List X) (left last mid : List ℕ) → IsLeft Is xs made left last → left ≡ 32 ∷ mid → (left ≡ last → ⊥)
      → (y : X) × (ys : List X) × (xs ≡ made ++ (y ∷ ys)) × Is y × All Is ys × (mid ≡ text y ++ (tails ys ++ last))
  left_more Is xs made left last mid h e other = by h.more h.whole h.fit h.stands
    where
      by : (more : List X) → xs ≡ made ++ more → All Is more → left ≡ tails more ++ last
          → (y : X) × (ys : List X) × (xs ≡ made ++ (y ∷ ys)) × Is y × All Is ys × (mid ≡ text y ++ (tails ys ++ last))
      by [] whole fit stands = absurd (other stands)
      by (y ∷ ys) whole fit stands =
          (y, ys, whole, All-head Is y ys fit, All-tail Is y ys fit, ap (λ l. drop 1 l) (sym e ∙ stands) ∙ append_assoc (text y) (tails ys) last)

  -- after it, less is left
  pub left_less : (Is : X → Type 0) (xs made : List X) (y next : X) (ys : List X) (new last : List ℕ) → xs ≡ made ++ (y ∷ ys) → All Is ys → next ≡ y → new ≡ tails ys ++ last
      → IsLeft Is xs (made ++ next ∷ []) new last
  left_less Is xs made y next ys new last whole fit same stands = record {
    more = ys;
    whole = whole ∙ sym (ap (λ z. made ++ (z ∷ ys)) same) ∙ sym (append_assoc made (next ∷ []) ys);
    fit = fit;
    stands = stands;
  }

  -- and where no more is next, all was read
  pub left_none : (Is : X → Type 0) (xs made : List X) (left last : List ℕ) → IsLeft Is xs made left last
      → ((y : X) (ys : List X) → Is y → left ≡ 32 ∷ (text y ++ (tails ys ++ last)) → ⊥) → (made ≡ xs) × (left ≡ last)
  left_none Is xs made left last h none = by h.more h.whole h.fit h.stands
    where
      by : (more : List X) → xs ≡ made ++ more → All Is more → left ≡ tails more ++ last → (made ≡ xs) × (left ≡ last)
      by [] whole fit stands = (sym (whole ∙ append-nil made), stands)
      by (y ∷ ys) whole fit stands = absurd (none y ys (All-head Is y ys fit) (stands ∙ ap (λ l. 32 ∷ l) (append_assoc (text y) (tails ys) last)))
