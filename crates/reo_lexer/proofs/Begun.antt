-- Refusals of texts: what stands before a refused token goes on to a text of the grammar, and nothing goes on behind it.
use Rattle.std.proofs.Common.{◌≡◌, ℕ, zero, suc, ◌-◌, ◌≤◌, List, [], ◌∷◌, ◌++◌, length, take, drop, refl, sym, ◌∙◌, ap, subst, arith, append_assoc, length-append, length-drop}
use Rattle.std.proofs.lemmas.List.{take-append-drop}
use Rattle.reo_grammar.specs.Tokens.{Lexeme, AreReal, Alike}
use Rattle.reo_grammar.specs.Grammar.{Grammar, Says, Begins, Refused}
use Rattle.reo_grammar.proofs.Lines.{says-alike}
use Rattle.reo_grammar.proofs.Refusals.{real-back}
use Rattle.reo_lexer.specs.declared.token.Token.{Token}
use Rattle.reo_lexer.specs.Lexing.{IsTokens, AtEnd, lexeme_of, lexemes_of, Lies}
use Rattle.reo_lexer.specs.Onward.{IsBegun}
use Rattle.reo_lexer.proofs.Spans.{AllLie, runs-lie, tokens-real}
use Rattle.reo_lexer.proofs.Onward.{front-tokens, real-goes-on}

map-append : (text : List ℕ) (ts us : List Token) → lexemes_of text (ts ++ us) ≡ lexemes_of text ts ++ lexemes_of text us
map-append text [] us = refl
map-append text (t ∷ ts) us = ap (λ l. lexeme_of text t ∷ l) (map-append text ts us)

take-front : (n : ℕ) (a b : List ℕ) → n ≤ length a → take n (a ++ b) ≡ take n a
take-front zero a b h = refl
take-front (suc n) [] b h = absurd (omega arith)
take-front (suc n) (x ∷ a) b h = ap (λ l. x ∷ l) (take-front n a b (omega arith))

drop-front : (n : ℕ) (a b : List ℕ) → n ≤ length a → drop n (a ++ b) ≡ drop n a ++ b
drop-front zero a b h = refl
drop-front (suc n) [] b h = absurd (omega arith)
drop-front (suc n) (x ∷ a) b h = drop-front n a b (omega arith)

-- A token's bytes stand in each front that its span lies in.
lexeme-front : (a b : List ℕ) (t : Token) → Lies a t → lexeme_of (a ++ b) t ≡ lexeme_of a t
lexeme-front a b t h =
    let n : t.start ≤ length a = omega (arith, h.0, h.1) in
    let e : take (t.end - t.start) (drop t.start (a ++ b)) ≡ take (t.end - t.start) (drop t.start a) =
    ap (take (t.end - t.start)) (drop-front t.start a b n) ∙ take-front (t.end - t.start) (drop t.start a) b (omega (arith, h.0, h.1, length-drop t.start a)) in
    ap (λ (l : List ℕ). record { kind = t.kind; bytes = l; line = t.line }) e

lexemes-front : (a b : List ℕ) (ts : List Token) → AllLie a ts → lexemes_of (a ++ b) ts ≡ lexemes_of a ts
lexemes-front a b [] h = refl
lexemes-front a b (t ∷ ts) (h, hs) = ap (λ l. l ++ lexemes_of (a ++ b) ts) (ap (λ x. x ∷ []) (lexeme-front a b t h)) ∙ ap (λ l. lexeme_of a t ∷ l) (lexemes-front a b ts hs)

lie-front : (text : List ℕ) (ts : List Token) → IsTokens text ts → AllLie text ts
lie-front text ts h = (runs-lie AtEnd text 0 1 text ts (omega arith) refl h).0

alike-same : (a c d : List Lexeme) → Alike c d → Alike (a ++ c) (a ++ d)
alike-same [] c d h = h
alike-same (t ∷ a) c d h = (refl, refl, alike-same a c d h)

same-front : (a b : List Lexeme) (u : List Lexeme) → a ++ u ≡ b ++ u → a ≡ b
same-front [] [] u e = refl
same-front [] (x ∷ b) u e = absurd (omega (arith, ap length e, length-append b u))
same-front (x ∷ a) [] u e = absurd (omega (arith, ap length e, length-append a u))
same-front (x ∷ a) (y ∷ b) u e = let p : x ≡ y = cc in let q : a ≡ b = same-front a b u (cc) in cc

module _ {Ref : Type 0} {tree : Ref → Type 0} (rules : (r : Ref) → Grammar Ref tree (tree r)) {A : Type 0} (g : Grammar Ref tree A) where
  -- Where the tokens of a text begin something, the text goes on to one that says something.
  pub text-begun : (text : List ℕ) (ts : List Token) → IsTokens text ts → Begins rules g (lexemes_of text ts) → IsBegun rules g text
  text-begun text ts h (c, x, r, d) =
      let (more, us, i, a) = real-goes-on text ts c h r in
      let e : lexemes_of (text ++ more) (ts ++ us) ≡ lexemes_of text ts ++ lexemes_of (text ++ more) us =
      map-append (text ++ more) ts us ∙ ap (λ l. l ++ lexemes_of (text ++ more) us) (lexemes-front text more ts (lie-front text ts h)) in
      let (y, s) = says-alike rules g (lexemes_of text ts ++ c) (lexemes_of text ts ++ lexemes_of (text ++ more) us) x (alike-same (lexemes_of text ts) c (lexemes_of (text ++ more) us) a) d in
      (more, ts ++ us, y, i, subst (λ l. Says rules g l y) (sym e) s)

  split : (text : List ℕ) (ts us : List Token) (t : Token) → Refused rules g (lexemes_of text (ts ++ t ∷ us)) (lexemes_of text (t ∷ us))
      → Begins rules g (lexemes_of text ts) × (Begins rules g (lexemes_of text ts ++ lexeme_of text t ∷ []) → ⊥)
  split text ts us t (a, w, b, n) =
      let e : lexemes_of text ts ≡ a = same-front (lexemes_of text ts) a (lexemes_of text (t ∷ us)) (sym (map-append text ts (t ∷ us)) ∙ w) in
      (subst (λ l. Begins rules g l) (sym e) b, λ k. n (subst (λ l. Begins rules g (l ++ lexeme_of text t ∷ [])) e k))

  pub refused-before : (text : List ℕ) (ts us : List Token) (t : Token) → IsTokens text (ts ++ t ∷ us) → Refused rules g (lexemes_of text (ts ++ t ∷ us)) (lexemes_of text (t ∷ us))
      → IsBegun rules g (take t.start text)
  refused-before text ts us t h r =
      let f : IsTokens (take t.start text) ts = front-tokens text ts t us h in
      let e : lexemes_of text ts ≡ lexemes_of (take t.start text) ts =
      ap (λ l. lexemes_of l ts) (sym (take-append-drop t.start text)) ∙ lexemes-front (take t.start text) (drop t.start text) ts (lie-front (take t.start text) ts f) in
      text-begun (take t.start text) ts f (subst (λ l. Begins rules g l) e (split text ts us t r).0)

  lie-parts : (text : List ℕ) (ts us : List Token) → AllLie text (ts ++ us) → AllLie text ts × AllLie text us
  lie-parts text [] us h = (tt, h)
  lie-parts text (t ∷ ts) us (h, hs) = let (a, b) = lie-parts text ts us hs in ((h, a), b)

  pub refused-upto : (text other : List ℕ) (ts us vs : List Token) (t : Token) (x : A) → IsTokens text (ts ++ t ∷ us) → Refused rules g (lexemes_of text (ts ++ t ∷ us)) (lexemes_of text (t ∷ us))
      → lexemes_of other (ts ++ t ∷ []) ≡ lexemes_of text (ts ++ t ∷ []) → IsTokens other (ts ++ t ∷ vs) → Says rules g (lexemes_of other (ts ++ t ∷ vs)) x → ⊥
  refused-upto text other ts us vs t x h r same i d =
      let w : ts ++ t ∷ vs ≡ (ts ++ t ∷ []) ++ vs = sym (append_assoc ts (t ∷ []) vs) in
      let e : lexemes_of other (ts ++ t ∷ vs) ≡ (lexemes_of text ts ++ lexeme_of text t ∷ []) ++ lexemes_of other vs =
      ap (lexemes_of other) w ∙ map-append other (ts ++ t ∷ []) vs ∙ ap (λ l. l ++ lexemes_of other vs) (same ∙ map-append text ts (t ∷ [])) in
      let q : AreReal ((lexemes_of text ts ++ lexeme_of text t ∷ []) ++ lexemes_of other vs) = subst AreReal e (tokens-real other (ts ++ t ∷ vs) i) in
      let s : Says rules g ((lexemes_of text ts ++ lexeme_of text t ∷ []) ++ lexemes_of other vs) x = subst (λ l. Says rules g l x) e d in
      (split text ts us t r).1 (lexemes_of other vs, x, real-back (lexemes_of text ts ++ lexeme_of text t ∷ []) (lexemes_of other vs) q, s)
