-- What bytes between quotes say of those bytes.
use Rattle.std.proofs.Common.{◌≡◌, ◌≢◌, ◌<◌, ℕ, List, [], ◌∷◌, ◌++◌, length, drop, ap, refl, sym, ◌∙◌, arith, append_assoc}
use Rattle.std.specs.List.{flat_map}
use Rattle.std.proofs.lemmas.Grind.{common_steps}
use Rattle.reo_values.specs.ItemText.{escape, quoted}

-- an escape is not empty
pub escape_longer : (a : ℕ) (x y : List ℕ) → y ≡ escape a ++ x → length x < length y
escape_longer a x y e = grind (arith, common_steps)

-- what was escaped, and what comes after it, are told from the bytes
pub escape_unique : (a b : ℕ) (x y : List ℕ) → escape a ++ x ≡ escape b ++ y → (a ≡ b) × (x ≡ y)
escape_unique a b x y e = grind (arith, common_steps)

-- no escape begins with a quote
pub escape_no-quote : (a : ℕ) (x y : List ℕ) → escape a ++ x ≡ 34 ∷ y → ⊥
escape_no-quote a x y e = grind (arith, common_steps)

-- the closing quote tells where the bytes end
pub escaped_unique : (x y r s : List ℕ) → flat_map escape x ++ 34 ∷ r ≡ flat_map escape y ++ 34 ∷ s → (x ≡ y) × (r ≡ s)
escaped_unique [] [] r s e = (refl, ap (λ l. drop 1 l) e)
escaped_unique [] (b ∷ bs) r s e = absurd (escape_no-quote b (flat_map escape bs ++ 34 ∷ s) r (sym (append_assoc (escape b) (flat_map escape bs) (34 ∷ s)) ∙ sym e))
escaped_unique (a ∷ as') [] r s e = absurd (escape_no-quote a (flat_map escape as' ++ 34 ∷ r) s (sym (append_assoc (escape a) (flat_map escape as') (34 ∷ r)) ∙ e))
escaped_unique (a ∷ as') (b ∷ bs) r s e =
    let first = escape_unique a b (flat_map escape as' ++ 34 ∷ r) (flat_map escape bs ++ 34 ∷ s)
    (sym (append_assoc (escape a) (flat_map escape as') (34 ∷ r)) ∙ e ∙ append_assoc (escape b) (flat_map escape bs) (34 ∷ s)) in
    let more = escaped_unique as' bs r s first.1 in
    ((λ i. first.0 i ∷ more.0 i), more.1)

pub quoted_end : (x r : List ℕ) → quoted x ++ r ≡ 34 ∷ (flat_map escape x ++ 34 ∷ r)
quoted_end x r = ap (λ l. 34 ∷ l) (append_assoc (flat_map escape x) (34 ∷ []) r)

-- a quoted text tells its bytes and where it ends
pub quoted_unique : (x y r s : List ℕ) → quoted x ++ r ≡ quoted y ++ s → (x ≡ y) × (r ≡ s)
quoted_unique x y r s e = escaped_unique x y r s (ap (λ l. drop 1 l) (sym (quoted_end x r) ∙ e ∙ quoted_end y s))

-- bytes that neither a quote nor an escape follows are no beginning of a quoted text
pub quoted_none : (made bytes left rest : List ℕ) → flat_map escape made ++ left ≡ flat_map escape bytes ++ 34 ∷ rest
    → ((tail : List ℕ) → left ≢ 34 ∷ tail) → ((byte : ℕ) (tail : List ℕ) → left ≢ escape byte ++ tail) → ⊥
quoted_none [] [] left rest e end none = end rest e
quoted_none [] (b ∷ bs) left rest e end none = none b (flat_map escape bs ++ 34 ∷ rest) (e ∙ append_assoc (escape b) (flat_map escape bs) (34 ∷ rest))
quoted_none (m ∷ ms) [] left rest e end none = escape_no-quote m (flat_map escape ms ++ left) rest (sym (append_assoc (escape m) (flat_map escape ms) left) ∙ e)
quoted_none (m ∷ ms) (b ∷ bs) left rest e end none =
    let first = escape_unique m b (flat_map escape ms ++ left) (flat_map escape bs ++ 34 ∷ rest)
    (sym (append_assoc (escape m) (flat_map escape ms) left) ∙ e ∙ append_assoc (escape b) (flat_map escape bs) (34 ∷ rest)) in
    quoted_none ms bs left rest first.1 end none
