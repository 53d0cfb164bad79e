-- Tokens of the version before others change no level.
use Rattle.std.proofs.Common.{◌≡◌, ℕ, ◌+◌, true, false, cond, List, [], ◌∷◌, ◌++◌, refl, sym, ◌∙◌, ap, subst, arith, append_assoc, append-nil, codes}
use Rattle.reo_grammar.specs.declared.kind.TokenKind.TheVariants as kinds
use Rattle.reo_grammar.specs.Tokens.{Lexeme, matches}
use Rattle.reo_grammar.specs.Tokens.Class.{fixed}
use Rattle.reo_grammar.specs.Levels.{operators, term_starts, term_ends, count_of, in_term, operators_at, IsAbove, Nowhere}
use Rattle.reo_grammar.proofs.Levels.{in_term-more, operators_at-more, count_of-more}

-- Levels count so much behind both.
record SameDepth (a c : List Lexeme) : Type 0 where
  pub opened : count_of (fixed (codes "(")) a ≡ count_of (fixed (codes "(")) c
  pub closed : count_of (fixed (codes ")")) a ≡ count_of (fixed (codes ")")) c
  pub runs : in_term a ≡ in_term c
  pub signs : operators_at a ≡ operators_at c

same-more : (a c : List Lexeme) (t : Lexeme) → SameDepth a c → SameDepth (a ++ t ∷ []) (c ++ t ∷ [])
same-more a c t s = record {
  opened = count_of-more (fixed (codes "(")) a t ∙ ap (λ n. cond (matches (fixed (codes "(")) t) 1 0 + n) s.opened ∙ sym (count_of-more (fixed (codes "(")) c t);
  closed = count_of-more (fixed (codes ")")) a t ∙ ap (λ n. cond (matches (fixed (codes ")")) t) 1 0 + n) s.closed ∙ sym (count_of-more (fixed (codes ")")) c t);
  runs = in_term-more a t ∙ ap (λ b. cond (matches term_starts t) true (cond (matches term_ends t) false b)) s.runs ∙ sym (in_term-more c t);
  signs =
      operators_at-more a t
      ∙ ap (λ b. cond (matches term_starts t) 0 (cond (matches term_ends t) 0 (cond b (cond (matches operators t) 1 0 + operators_at a) 0))) s.runs
      ∙ ap (λ n. cond (matches term_starts t) 0 (cond (matches term_ends t) 0 (cond (in_term c) (cond (matches operators t) 1 0 + n) 0))) s.signs
      ∙ sym (operators_at-more c t);
}

same-append : (a c b : List Lexeme) → SameDepth a c → SameDepth (a ++ b) (c ++ b)
same-append a c [] s = subst (λ l. SameDepth l (c ++ [])) (sym (append-nil a)) (subst (SameDepth a) (sym (append-nil c)) s)
same-append a c (t ∷ b) s =
    subst (λ l. SameDepth l (c ++ (t ∷ b))) (append_assoc a (t ∷ []) b) (subst (SameDepth ((a ++ t ∷ []) ++ b)) (append_assoc c (t ∷ []) b) (same-append (a ++ t ∷ []) (c ++ t ∷ []) b (same-more a c t s)))

abbrev pub the_reo : Lexeme
the_reo = record { kind = kinds.Name; bytes = codes "reo"; line = 0 }

abbrev pub the_two : Lexeme
the_two = record { kind = kinds.Number; bytes = codes "2"; line = 0 }

one_same : SameDepth (the_reo ∷ []) []
one_same = record { opened = refl; closed = refl; runs = refl; signs = refl }

two_same : SameDepth (the_reo ∷ the_two ∷ []) []
two_same = record { opened = refl; closed = refl; runs = refl; signs = refl }

above-same : (n : ℕ) (a c : List Lexeme) → SameDepth a c → IsAbove n a → IsAbove n c
above-same n a c s h = omega (arith, s.opened, s.closed, s.signs, h)

none-above : (n : ℕ) → IsAbove n [] → ⊥
none-above n h = omega (arith, h)

pub nowhere-version : (n : ℕ) (ts : List Lexeme) → Nowhere (IsAbove n) ts → Nowhere (IsAbove n) (the_reo ∷ the_two ∷ ts)
nowhere-version n ts h [] u t e d = let q : the_reo ≡ t = cc in none-above n (above-same n (the_reo ∷ []) [] one_same (subst (λ x. IsAbove n (x ∷ [])) (sym q) d))
nowhere-version n ts h (x ∷ []) u t e d =
    let q : the_reo ≡ x = cc in
    let r : the_two ≡ t = cc in
    none-above n (above-same n (the_reo ∷ the_two ∷ []) [] two_same (subst (λ z. IsAbove n (z ∷ the_two ∷ [])) (sym q) (subst (λ z. IsAbove n (x ∷ z ∷ [])) (sym r) d)))
nowhere-version n ts h (x ∷ y ∷ a) u t e d =
    let q : the_reo ≡ x = cc in
    let r : the_two ≡ y = cc in
    let w : ts ≡ a ++ (t ∷ u) = cc in
    h a u t w (above-same n (the_reo ∷ the_two ∷ (a ++ t ∷ [])) (a ++ t ∷ []) (same-append (the_reo ∷ the_two ∷ []) [] (a ++ t ∷ []) two_same)
    (subst (λ z. IsAbove n (z ∷ the_two ∷ (a ++ t ∷ []))) (sym q) (subst (λ z. IsAbove n (x ∷ z ∷ (a ++ t ∷ []))) (sym r) d)))
