-- Refusals of texts, by what reading their tokens comes to.
use Rattle.std.proofs.Common.{◌≡◌, ℕ, ◌+◌, ◌-◌, ◌≤◌, ◌<◌, List, [], ◌∷◌, ◌++◌, length, take, drop, get_or, refl, sym, ◌∙◌, ap, subst, arith, append_assoc, min, inl, inr}
use Rattle.std.proofs.Math.Nat.{eq-or-lt_of_le}
use Rattle.std.proofs.lemmas.List.{take-append-drop, get_or-take, length-take-le}
use Rattle.reo_grammar.specs.Tokens.{Lexeme, AreReal}
use Rattle.reo_grammar.specs.Grammar.{Grammar, Says, Begins, Refused}
use Rattle.reo_grammar.specs.Levels.{Nowhere}
use Rattle.reo_grammar.proofs.Exact.{refused-longer}
use Rattle.reo_grammar.proofs.Refusals.{real-front, says-begins}
use Rattle.reo_lexer.specs.declared.token.Token.{Token}
use Rattle.reo_lexer.specs.Lexing.{lexeme_of, lexemes_of}
use Rattle.reo_terms.specs.Refused.{last_line, refused_line, IsRefusedAt, IsDeepAt, IsFirstDeep}
use Rattle.reo_cursor.proofs.Views.{drop-next, none-left}
use Rattle.reo_terms.proofs.Fronts.{take-next, lexemes-length, lexemes-take, take-front, nowhere-front}

-- No tokens say something, so they are not refused.
pub some-tokens : {Ref : Type 0} {tree : Ref → Type 0} {A : Type 0} (rules : (r : Ref) → Grammar Ref tree (tree r)) (form : Grammar Ref tree A) (x : A) → Says rules form [] x → (text : List ℕ) (ts : List Token) (n : ℕ) → Refused rules form (lexemes_of text ts) (drop n (lexemes_of text ts)) → 0 < length ts
some-tokens rules form x said text [] n r =
    let q : Refused rules form [] [] = rw (none-left text [] n (omega arith)) at r in
    absurd (q.1 x said)
some-tokens rules form x said text (t ∷ ts) n r = omega arith

last-line : (text : List ℕ) (t : Token) (ts : List Token) (d : Token) → last_line (lexemes_of text (t ∷ ts)) ≡ (get_or (t ∷ ts) (length ts) d).line
last-line text t [] d = refl
last-line text t (s ∷ ts) d = last-line text s ts d

last-of : (text : List ℕ) (ts : List Token) (m : ℕ) (d : Token) → 0 < length ts → m ≡ length ts - 1 → (get_or ts m d).line ≡ last_line (lexemes_of text ts)
last-of text [] m d h e = absurd (omega arith)
last-of text (t ∷ ts) m d h e = let i : m ≡ length ts = omega arith in rw i (sym (last-line text t ts d))

pub refusal-line : (text : List ℕ) (ts : List Token) (n m : ℕ) (d : Token) → 0 < length ts → m ≡ min n (length ts - 1) → n ≤ length ts
    → (get_or ts m d).line ≡ refused_line (lexemes_of text ts) (drop n (lexemes_of text ts))
refusal-line text ts n m d h e w =
    elim (eq-or-lt_of_le w) [
      | inl i ↦ let k : m ≡ length ts - 1 = omega arith in rw (none-left text ts n (omega arith)) (last-of text ts m d h k)
      | inr i ↦ let k : m ≡ n = omega arith in rw (drop-next text ts n d i, k) refl
    ]

module _ {Ref : Type 0} {tree : Ref → Type 0} {A : Type 0} (rules : (r : Ref) → Grammar Ref tree (tree r)) (form : Grammar Ref tree A) (Deep : List Lexeme → Type 0) (text : List ℕ) (ts : List Token) where
  pub syntax-within : (n line : ℕ) → Nowhere Deep (lexemes_of text ts) → Refused rules form (lexemes_of text ts) (drop n (lexemes_of text ts))
      → line ≡ refused_line (lexemes_of text ts) (drop n (lexemes_of text ts)) → IsRefusedAt rules form Deep (lexemes_of text ts) line
  syntax-within n line q r e =
      let w : lexemes_of text ts ≡ take n (lexemes_of text ts) ++ drop n (lexemes_of text ts) = sym (take-append-drop n (lexemes_of text ts)) in
      (take n (lexemes_of text ts), drop n (lexemes_of text ts), w, r, nowhere-front Deep (take n (lexemes_of text ts)) (drop n (lexemes_of text ts)) (rw w at q), e)

  module _ (place : ℕ) (d : Token) (f : IsFirstDeep Deep (lexemes_of text ts) place) where
    within : place < length ts
    within = omega (arith, f.0, lexemes-length text ts)

    pub cut-real : AreReal (lexemes_of text ts) → AreReal (lexemes_of text (take (place + 1) ts))
    cut-real r = rw (lexemes-take text ts (place + 1)) (real-front (take (place + 1) (lexemes_of text ts)) (drop (place + 1) (lexemes_of text ts)) (rw (take-append-drop (place + 1) (lexemes_of text ts)) r))

    too-deep : Begins rules form (take (place + 1) (lexemes_of text ts)) → IsDeepAt rules form Deep (lexemes_of text ts) (get_or ts place d).line
    too-deep b =
        let e : take (place + 1) (lexemes_of text ts) ≡ take place (lexemes_of text ts) ++ lexeme_of text (get_or ts place d) ∷ [] = take-next text ts place d within in
        let w : lexemes_of text ts ≡ take place (lexemes_of text ts) ++ (lexeme_of text (get_or ts place d) ∷ drop (place + 1) (lexemes_of text ts))
        = sym (take-append-drop place (lexemes_of text ts)) ∙ ap (λ l. take place (lexemes_of text ts) ++ l) (drop-next text ts place d within) in
        (take place (lexemes_of text ts), lexeme_of text (get_or ts place d), drop (place + 1) (lexemes_of text ts), w, rw (← e) f.1, f.2, rw (← e) b, refl)

    pub deep-said : (p : A) → Says rules form (lexemes_of text (take (place + 1) ts)) p → IsDeepAt rules form Deep (lexemes_of text ts) (get_or ts place d).line
    deep-said p s = too-deep (rw (lexemes-take text ts (place + 1)) at (says-begins rules form (lexemes_of text (take (place + 1) ts)) p s))

    cut-length : length (lexemes_of text (take (place + 1) ts)) ≡ place + 1
    cut-length = lexemes-length text (take (place + 1) ts) ∙ length-take-le (place + 1) ts (omega (arith, within))

    pub deep-begun : (n : ℕ) → Refused rules form (lexemes_of text (take (place + 1) ts)) (drop n (lexemes_of text (take (place + 1) ts))) → place < n
        → IsDeepAt rules form Deep (lexemes_of text ts) (get_or ts place d).line
    deep-begun n r w =
        let e : drop n (lexemes_of text (take (place + 1) ts)) ≡ [] = none-left text (take (place + 1) ts) n (omega (arith, cut-length, lexemes-length text (take (place + 1) ts))) in
        let q : Refused rules form (lexemes_of text (take (place + 1) ts)) [] = rw e at r in
        too-deep (rw (lexemes-take text ts (place + 1)) at q.0)

    pub syntax-above : (n : ℕ) → Refused rules form (lexemes_of text (take (place + 1) ts)) (drop n (lexemes_of text (take (place + 1) ts))) → n ≤ place
        → IsRefusedAt rules form Deep (lexemes_of text ts) (get_or ts n d).line
    syntax-above n r w =
        let i : n < length (take (place + 1) ts) = omega (arith, cut-length, lexemes-length text (take (place + 1) ts)) in
        let t = lexeme_of text (get_or (take (place + 1) ts) n d) in
        let cut = lexemes_of text (take (place + 1) ts) in
        let v = drop (n + 1) cut in
        let more = drop (place + 1) (lexemes_of text ts) in
        let e : drop n cut ≡ t ∷ v = drop-next text (take (place + 1) ts) n d i in
        let all : lexemes_of text ts ≡ cut ++ more = sym (take-append-drop (place + 1) (lexemes_of text ts)) ∙ ap (λ l. l ++ more) (sym (lexemes-take text ts (place + 1))) in
        let q : Refused rules form (lexemes_of text ts) (t ∷ (v ++ more)) = subst (λ x. Refused rules form x (t ∷ (v ++ more))) (sym all) (refused-longer rules form cut t v more (rw e at r)) in
        let a = take n cut in
        let parts : lexemes_of text ts ≡ a ++ (t ∷ (v ++ more))
        = all ∙ ap (λ l. l ++ more) (sym (take-append-drop n cut) ∙ ap (λ l. a ++ l) e) ∙ append_assoc a (t ∷ v) more in
        let front : a ≡ take n (take place (lexemes_of text ts))
        = ap (take n) (lexemes-take text ts (place + 1)) ∙ take-front n (place + 1) (lexemes_of text ts) (omega arith) ∙ sym (take-front n place (lexemes_of text ts) w) in
        let below : Nowhere Deep (take n (take place (lexemes_of text ts)))
        = nowhere-front Deep (take n (take place (lexemes_of text ts))) (drop n (take place (lexemes_of text ts)))
        (rw (take-append-drop n (take place (lexemes_of text ts))) f.2) in
        (a, t ∷ (v ++ more), parts, q, rw front below, ap (λ x. x.line) (sym (get_or-take (place + 1) ts n d (omega arith))))
