-- A text is refused at one place.
use Rattle.std.proofs.Common.{◌≡◌, ℕ, ◌≤◌, ◌+◌, List, [], ◌∷◌, ◌++◌, length, inl, inr, ◌⊎◌, refl, sym, ◌∙◌, ap, arith, append_assoc, append-nil, length-append}
use Rattle.reo_grammar.specs.declared.kind.TokenKind.TheVariants as kinds
use Rattle.reo_grammar.specs.Tokens.{Lexeme, AreReal}
use Rattle.reo_grammar.specs.Grammar.{Grammar, Says, Begins, Refused}
use Rattle.reo_grammar.specs.Levels.{Nowhere}
use Rattle.reo_grammar.proofs.Refusals.{real-front, real-back, refused-silent, one-refusal, begins-front}
use Rattle.reo_lexer.specs.declared.token.Token.{Token}
use Rattle.reo_lexer.specs.Lexing.{IsTokens, AtEnd}
use Rattle.reo_terms.specs.Refused.{refused_line, IsRefusedAt, IsDeepAt}
use Rattle.reo_lexer.proofs.Counts.{runs_few}

-- A text has no more tokens than bytes.
pub tokens-few : (text : List ℕ) (ts : List Token) → IsTokens text ts → length ts ≤ length text
tokens-few text ts h = runs_few AtEnd 0 1 text ts h

-- Two cuts of a list, the first before a token: that token stands before the second cut, or the second cut is no later.
pub cuts : (a b u v : List Lexeme) (t : Lexeme) → a ++ (t ∷ u) ≡ b ++ v → ((w : List Lexeme) × (b ≡ a ++ (t ∷ w)) × (u ≡ w ++ v)) ⊎ ((w : List Lexeme) × (a ≡ b ++ w) × (v ≡ w ++ (t ∷ u)))
cuts a [] u v t e = inr (a, refl, sym e)
cuts [] (x ∷ b) u v t e = let i : t ≡ x = cc in let j : u ≡ b ++ v = cc in inl (b, ap (λ z. z ∷ b) (sym i), j)
cuts (y ∷ a) (x ∷ b) u v t e =
    let i : y ≡ x = cc in let f : a ++ (t ∷ u) ≡ b ++ v = cc in
    elim (cuts a b u v t f) [
      | inl (w, p, q) ↦ let g : x ∷ b ≡ y ∷ (a ++ (t ∷ w)) = cc in inl (w, g, q)
      | inr (w, p, q) ↦ let g : y ∷ a ≡ x ∷ (b ++ w) = cc in inr (w, g, q)
    ]

same-tail : (a b u v : List Lexeme) → a ++ u ≡ b ++ v → u ≡ v → a ≡ b
same-tail a b u v e f = front a b (length-append a u) (length-append b v) e (ap length f)
  where
    front : (a b : List Lexeme) → length (a ++ u) ≡ length a + length u → length (b ++ v) ≡ length b + length v → a ++ u ≡ b ++ v → length u ≡ length v → a ≡ b
    front [] [] p q e l = refl
    front [] (x ∷ b) p q e l = let i : length u ≡ length (x ∷ (b ++ v)) = ap length e in absurd (omega (arith, length-append b v))
    front (y ∷ a) [] p q e l = let i : length (y ∷ (a ++ u)) ≡ length v = ap length e in absurd (omega (arith, length-append a u))
    front (y ∷ a) (x ∷ b) p q e l = let i : y ≡ x = cc in let f : a ++ u ≡ b ++ v = cc in let k : a ≡ b = front a b (length-append a u) (length-append b v) f l in cc

module _ {Ref : Type 0} {tree : Ref → Type 0} {A : Type 0} (rules : (r : Ref) → Grammar Ref tree (tree r)) (form : Grammar Ref tree A) where
  -- No refusal stands at or before a token where the tokens up to and including it begin a text.
  behind : (ts a u c v y : List Lexeme) (t : Lexeme) → AreReal ts → ts ≡ a ++ u → Refused rules form ts u → ts ≡ c ++ (t ∷ v) → Begins rules form (c ++ t ∷ [])
      → c ≡ a ++ y → u ≡ y ++ (t ∷ v) → ⊥
  behind ts a [] c v [] t real w r x b g h = cc
  behind ts a [] c v (z ∷ y) t real w r x b g h = cc
  behind ts a (s ∷ u) c v [] t real w (o, j, _, n) x b g h =
      let i : t ≡ s = cc in
      let k : a ≡ o = same-tail a o (s ∷ u) (s ∷ u) (sym w ∙ j) refl in
      let e : c ++ t ∷ [] ≡ o ++ (s ∷ []) = ap (λ l. l ++ t ∷ []) (g ∙ append-nil a ∙ k) ∙ ap (λ z. o ++ z ∷ []) i in
      n (rw e at b)
  behind ts a (s ∷ u) c v (z ∷ y) t real w (o, j, _, n) x b g h =
      let i : z ≡ s = cc in
      let k : a ≡ o = same-tail a o (s ∷ u) (s ∷ u) (sym w ∙ j) refl in
      let e : c ++ t ∷ [] ≡ o ++ (s ∷ (y ++ t ∷ [])) = ap (λ l. l ++ t ∷ []) g ∙ append_assoc a (z ∷ y) (t ∷ []) ∙ ap (λ l. l ++ (z ∷ (y ++ t ∷ []))) k ∙ ap (λ l. o ++ (l ∷ (y ++ t ∷ []))) i in
      let r : AreReal (c ++ t ∷ []) = real-front (c ++ t ∷ []) v (rw (append_assoc c (t ∷ []) v) (rw x at real)) in
      let q : AreReal (s ∷ (y ++ t ∷ [])) = real-back o (s ∷ (y ++ t ∷ [])) (rw e at r) in
      n (begins-front rules form (o ++ s ∷ []) (y ++ t ∷ []) q.1 (rw (append_assoc o (s ∷ []) (y ++ t ∷ [])) (rw e at b)))

  module _ (Deep : List Lexeme → Type 0) (ts : List Lexeme) (real : AreReal ts) where
    pub syntax-line : (l m : ℕ) → IsRefusedAt rules form Deep ts l → IsRefusedAt rules form Deep ts m → l ≡ m
    syntax-line l m (a, u, w, r, n, e) (b, v, x, s, k, f) =
        let i : u ≡ v = one-refusal rules form ts u v real r s in
        e ∙ ap (refused_line ts) i ∙ sym f

    pub deep-line : (l m : ℕ) → IsDeepAt rules form Deep ts l → IsDeepAt rules form Deep ts m → l ≡ m
    deep-line l m (a, t, u, w, p, n, b, e) (c, s, v, x, q, k, d, f) =
        elim (cuts a c u (s ∷ v) t (sym w ∙ x)) [
          | inl (y, g, h) ↦ absurd (k a y t g p)
          | inr (y, g, h) ↦ later y g h
        ]
      where
        later : (y : List Lexeme) → a ≡ c ++ y → s ∷ v ≡ y ++ (t ∷ u) → l ≡ m
        later [] g h = let i : t ≡ s = cc in e ∙ ap (λ z. z.line) i ∙ sym f
        later (z ∷ y) g h = let i : s ≡ z = cc in absurd (n c y s (rw i g) q)

    pub not-both-faults : (l m : ℕ) → IsRefusedAt rules form Deep ts l → IsDeepAt rules form Deep ts m → ⊥
    not-both-faults l m (a, u, w, r, n, e) (c, t, v, x, p, k, b, f) =
        elim (cuts c a v u t (sym x ∙ w)) [
          | inl (y, g, h) ↦ n c y t g p
          | inr (y, g, h) ↦ behind ts a u c v y t real w r x b g h
        ]

    pub said-no-syntax : (p : A) (l : ℕ) → Says rules form ts p → IsRefusedAt rules form Deep ts l → ⊥
    said-no-syntax p l d (a, u, w, r, _, _) = refused-silent rules form ts u p real r d

    pub said-no-deep : (l : ℕ) → Nowhere Deep ts → IsDeepAt rules form Deep ts l → ⊥
    said-no-deep l n (a, t, u, w, p, _, _, _) = n a u t w p
