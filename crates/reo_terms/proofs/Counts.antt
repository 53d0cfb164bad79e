-- Counts are at most the number of tokens.
use Rattle.std.proofs.Common.{◌≡◌, ◌↔◌, ℕ, suc, ◌+◌, ◌≤◌, ◌<◌, Bool, true, false, cond, List, [], ◌∷◌, ◌++◌, length, reverse, take, get_or, min, arith}
use Rattle.std.specs.Bool.{IsTrue}
use Rattle.std.proofs.lemmas.List.{length-reverse, length-take}
use Rattle.std.proofs.lemmas.List.Sums.{count_by-le-length}
use Rattle.reo_grammar.specs.Tokens.{Lexeme, matches}
use Rattle.reo_grammar.specs.Levels.{operators, term_starts, count_of, in_term, since_start, operators_at}
use Rattle.reo_lexer.specs.declared.token.Token.{Token}
use Rattle.reo_lexer.specs.Lexing.{lexeme_of, lexemes_of}
use Rattle.reo_terms.specs.declared.levels.Levels.{Levels}
use Rattle.reo_terms.specs.Counting.{Counts}
use Rattle.reo_terms.proofs.Fronts.{take-next}

since-few : (ts : List Lexeme) → length (since_start ts) ≤ length ts
since-few [] = omega arith
since-few (t ∷ ts) = by (matches term_starts t) (since-few ts)
  where
    by : (b : Bool) → length (since_start ts) ≤ length ts → length (cond b [] (t ∷ since_start ts)) ≤ suc (length ts)
    by true h = omega arith
    by false h = omega arith

operators-at-few : (ts : List Lexeme) → operators_at ts ≤ length ts
operators-at-few ts = by (in_term ts)
  where
    by : (b : Bool) → cond b (count_of operators (since_start (reverse ts))) 0 ≤ length ts
    by true = omega (arith, count_by-le-length (matches operators) (since_start (reverse ts)), since-few (reverse ts), length-reverse ts)
    by false = omega arith

-- The operators before a place are no more than that place.
pub operators-small : (text : List ℕ) (ts : List Token) (n : ℕ) (l : Levels) → Counts l (take n (lexemes_of text ts)) → l.operators ≤ n
operators-small text ts n l c =
    let h : operators_at (take n (lexemes_of text ts)) ≤ length (take n (lexemes_of text ts)) = operators-at-few (take n (lexemes_of text ts)) in
    let i : length (take n (lexemes_of text ts)) ≡ min n (length (lexemes_of text ts)) = length-take n (lexemes_of text ts) in
    omega (arith, c.operators)

-- The counts with one more token.
pub counts-next : (text : List ℕ) (ts : List Token) (n : ℕ) (d : Token) (l m : Levels) (s : Lexeme) → n < length ts → s ≡ lexeme_of text (get_or ts n d)
    → Counts l (take n (lexemes_of text ts)) → ((us : List Lexeme) → Counts l us → Counts m (us ++ s ∷ [])) → Counts m (take (n + 1) (lexemes_of text ts))
counts-next text ts n d l m s h e c f = rw (take-next text ts n d h, ← e) (f (take n (lexemes_of text ts)) c)

pub above-yes : (b : Bool) (P : Type 0) → IsTrue b ↔ P → b ≡ true → P
above-yes b P i e = i.0 e

pub above-no : (b : Bool) (P : Type 0) → IsTrue b ↔ P → b ≡ false → P → ⊥
above-no b P i e p = let h : b ≡ true = i.1 p in absurd (cc)
