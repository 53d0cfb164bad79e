-- How many parentheses and braces are open at each token.
use Rattle.std.proofs.Common.{◌≡◌, ℕ, ◌+◌, ◌-◌, ◌≤◌, Bool, true, false, cond, ◌&&◌, not, inl, inr, List, [], ◌∷◌, ◌++◌, refl, sym, ◌∙◌, ap, subst, arith, append_assoc, append-nil, nat_le, codes}
use Rattle.std.proofs.lemmas.Bool.{leb-true, and_parts}
use Rattle.reo_grammar.specs.Tokens.{Lexeme, matches, Alike}
use Rattle.reo_grammar.specs.Tokens.Class.{fixed}
use Rattle.reo_grammar.specs.Levels.{term_starts, term_ends, count_of, in_term, operators_at, IsAbove, Nowhere}
use Rattle.reo_grammar.proofs.Levels.{in_term-more, count_of-more}
use Rattle.reo_grammar.proofs.Lines.{matches-alike}
use Rattle.reo_script.specs.scripts.ScriptAnswers.{IsDeep}

-- So many are open.
pub record Height : Type 0 where
  pub parentheses : ℕ
  pub braces : ℕ

abbrev pub height : ℕ → ℕ → Height
height p b = record { parentheses = p; braces = b }

-- One more, or one less.
abbrev pub moved : Bool → Bool → ℕ → ℕ
moved opens closes n = cond opens (n + 1) (cond closes (n - 1) n)

abbrev pub over : Height → Lexeme → Height
over h t = record {
  parentheses = moved (matches (fixed (codes "(")) t) (matches (fixed (codes ")")) t) h.parentheses;
  braces = moved (matches (fixed (codes "{")) t) (matches (fixed (codes "}")) t) h.braces;
}

abbrev pub behind : Height → List Lexeme → Height
behind h [] = h
behind h (t ∷ ts) = behind (over h t) ts

-- No term begins at the token, and no more than so many are open.
abbrev pub is_low : Height → Lexeme → Bool
is_low h t = not (matches term_starts t) && (nat_le (over h t).parentheses 64 && nat_le (over h t).braces 16)

abbrev pub AreLow : Height → List Lexeme → Type 0
AreLow h [] = Unit {0}
AreLow h (t ∷ ts) = (is_low h t ≡ true) × AreLow (over h t) ts

pub low-append : (h : Height) (a b : List Lexeme) → AreLow h a → AreLow (behind h a) b → AreLow h (a ++ b)
low-append h [] b x y = y
low-append h (t ∷ a) b (k, x) y = (k, low-append (over h t) a b x y)

pub behind-append : (h : Height) (a b : List Lexeme) → behind h (a ++ b) ≡ behind (behind h a) b
behind-append h [] b = refl
behind-append h (t ∷ a) b = behind-append (over h t) a b

over-alike : (h : Height) (t u : Lexeme) → t.kind ≡ u.kind → t.bytes ≡ u.bytes → over h u ≡ over h t
over-alike h t u k w =
    rw (matches-alike (fixed (codes "(")) t u k w, matches-alike (fixed (codes ")")) t u k w, matches-alike (fixed (codes "{")) t u k w, matches-alike (fixed (codes "}")) t u k w) refl

low-one : (h : Height) (t u : Lexeme) → t.kind ≡ u.kind → t.bytes ≡ u.bytes → is_low h t ≡ true → is_low h u ≡ true
low-one h t u k w low =
    rw (matches-alike term_starts t u k w, matches-alike (fixed (codes "(")) t u k w, matches-alike (fixed (codes ")")) t u k w, matches-alike (fixed (codes "{")) t u k w, matches-alike (fixed (codes "}")) t u k w) low

pub low-alike : (h : Height) (ts us : List Lexeme) → Alike ts us → AreLow h ts → AreLow h us
low-alike h [] [] same low = tt
low-alike h [] (u ∷ us) same low = absurd same
low-alike h (t ∷ ts) [] same low = absurd same
low-alike h (t ∷ ts) (u ∷ us) (k, w, same) (x, low) =
    (low-one h t u k w x, low-alike (over h u) ts us same (subst (λ z. AreLow z ts) (sym (over-alike h t u k w)) low))

-- What is counted is no more than what is open.
record Counted (h : Height) (a : List Lexeme) : Type 0 where
  pub parentheses : count_of (fixed (codes "(")) a ≤ count_of (fixed (codes ")")) a + h.parentheses
  pub braces : count_of (fixed (codes "{")) a ≤ count_of (fixed (codes "}")) a + h.braces
  pub calm : in_term a ≡ false

moved-counts : (x y : Bool) (n m h : ℕ) → n ≤ m + h → cond x 1 0 + n ≤ (cond y 1 0 + m) + moved x y h
moved-counts true true n m h k = omega arith
moved-counts true false n m h k = omega arith
moved-counts false true n m h k = omega arith
moved-counts false false n m h k = omega arith

calm-more : (s e r : Bool) → not s ≡ true → r ≡ false → cond s true (cond e false r) ≡ false
calm-more true e r n k = absurd (cc)
calm-more false true r n k = refl
calm-more false false r n k = k

counted-more : (h : Height) (a : List Lexeme) (t : Lexeme) → is_low h t ≡ true → Counted h a → Counted (over h t) (a ++ t ∷ [])
counted-more h a t low c = record {
  parentheses = rw (count_of-more (fixed (codes "(")) a t, count_of-more (fixed (codes ")")) a t) (moved-counts (matches (fixed (codes "(")) t) (matches (fixed (codes ")")) t) _ _ h.parentheses c.parentheses);
  braces = rw (count_of-more (fixed (codes "{")) a t, count_of-more (fixed (codes "}")) a t) (moved-counts (matches (fixed (codes "{")) t) (matches (fixed (codes "}")) t) _ _ h.braces c.braces);
  calm = in_term-more a t ∙ calm-more (matches term_starts t) (matches term_ends t) (in_term a) ((and_parts (not (matches term_starts t)) _ low).0) c.calm;
}

calm-none : (r : Bool) (n : ℕ) → r ≡ false → cond r n 0 ≡ 0
calm-none true n k = absurd (cc)
calm-none false n k = refl

no-operators : (a : List Lexeme) → in_term a ≡ false → operators_at a ≡ 0
no-operators a k = calm-none (in_term a) _ k

record Shallow (h : Height) : Type 0 where
  pub parentheses : h.parentheses ≤ 64
  pub braces : h.braces ≤ 16

shallow : (h : Height) (t : Lexeme) → is_low h t ≡ true → Shallow (over h t)
shallow h t low =
    let both : (nat_le (over h t).parentheses 64 && nat_le (over h t).braces 16) ≡ true = (and_parts (not (matches term_starts t)) _ low).1 in
    record { parentheses = leb-true (over h t).parentheses 64 ((and_parts (nat_le (over h t).parentheses 64) _ both).0); braces = leb-true (over h t).braces 16 ((and_parts (nat_le (over h t).parentheses 64) _ both).1) }

not-deep : (h : Height) (a : List Lexeme) → Shallow h → Counted h a → IsDeep a → ⊥
not-deep h a s c (inl above) =
    let none = no-operators a c.calm in
    let x = c.parentheses in
    let y = s.parentheses in
    absurd (omega (arith, above, none, x, y))
not-deep h a s c (inr (b, t, is, m, nested)) =
    let x = c.braces in
    let y = s.braces in
    absurd (omega (arith, nested, x, y))

nowhere-from : (h : Height) (a ts : List Lexeme) → Counted h a → AreLow h ts → (b u : List Lexeme) (t : Lexeme) → ts ≡ b ++ (t ∷ u) → IsDeep ((a ++ b) ++ (t ∷ [])) → ⊥
nowhere-from h a [] c low [] u t e deep = absurd (cc)
nowhere-from h a [] c low (x ∷ b) u t e deep = absurd (cc)
nowhere-from h a (w ∷ ts) c (k, low) [] u t e deep =
    let same : w ≡ t = cc in
    not-deep (over h w) (a ++ w ∷ []) (shallow h w k) (counted-more h a w k c) (subst (λ z. IsDeep (a ++ z ∷ [])) (sym same) (subst (λ l. IsDeep (l ++ (t ∷ []))) (append-nil a) deep))
nowhere-from h a (w ∷ ts) c (k, low) (x ∷ b) u t e deep =
    let same : w ≡ x = cc in
    let rest : ts ≡ b ++ (t ∷ u) = cc in
    nowhere-from (over h w) (a ++ w ∷ []) ts (counted-more h a w k c) low b u t rest
    (subst (λ l. IsDeep (l ++ (t ∷ []))) (ap (λ y. a ++ (y ∷ b)) (sym same) ∙ sym (append_assoc a (w ∷ []) b)) deep)

none_yet : Counted (height 0 0) []
none_yet = record { parentheses = omega arith; braces = omega arith; calm = refl }

-- Tokens that are low from the ground on are nowhere too deep.
pub low-nowhere : (ts : List Lexeme) → AreLow (height 0 0) ts → Nowhere IsDeep ts
low-nowhere ts low = λ a u t e deep. nowhere-from (height 0 0) [] ts none_yet low a u t e deep

pub low-nowhere_above : (ts : List Lexeme) → AreLow (height 0 0) ts → Nowhere (IsAbove 64) ts
low-nowhere_above ts low = λ a u t e above. low-nowhere ts low a u t e (inl above)
