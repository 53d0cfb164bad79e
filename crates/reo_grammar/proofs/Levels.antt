-- Levels as one more token comes.
use Rattle.std.proofs.Common.{◌≡◌, ◌+◌, Bool, true, false, cond, List, [], ◌∷◌, ◌++◌, reverse, refl, ap, arith}
use Rattle.std.proofs.lemmas.List.Sums.{fold-append}
use Rattle.std.proofs.lemmas.Grind.{common_steps}
use Rattle.reo_grammar.specs.Tokens.{Lexeme, Class, matches}
use Rattle.reo_grammar.specs.Levels.{operators, term_starts, term_ends, count_of, runs_back, in_term, since_start, operators_at}

reverse-snoc : (ts : List Lexeme) (t : Lexeme) → reverse (ts ++ t ∷ []) ≡ t ∷ reverse ts
reverse-snoc ts t = grind (arith, common_steps)

pub in_term-more : (ts : List Lexeme) (t : Lexeme) → in_term (ts ++ t ∷ []) ≡ cond (matches term_starts t) true (cond (matches term_ends t) false (in_term ts))
in_term-more ts t = ap runs_back (reverse-snoc ts t)

count_of-cons : (c : Class) (t : Lexeme) (ts : List Lexeme) → count_of c (t ∷ ts) ≡ cond (matches c t) 1 0 + count_of c ts
count_of-cons c t ts = grind (arith, common_steps, fold-append)

counted : (starts ends runs : Bool) (t : Lexeme) (ts : List Lexeme)
    → cond (cond starts true (cond ends false runs)) (count_of operators (cond starts [] (t ∷ ts))) 0
    ≡ cond starts 0 (cond ends 0 (cond runs (cond (matches operators t) 1 0 + cond runs (count_of operators ts) 0) 0))
counted true ends runs t ts = refl
counted false true runs t ts = refl
counted false false true t ts = count_of-cons operators t ts
counted false false false t ts = refl

pub operators_at-more : (ts : List Lexeme) (t : Lexeme)
    → operators_at (ts ++ t ∷ []) ≡ cond (matches term_starts t) 0 (cond (matches term_ends t) 0 (cond (in_term ts) (cond (matches operators t) 1 0 + operators_at ts) 0))
operators_at-more ts t = rw (reverse-snoc ts t) (counted (matches term_starts t) (matches term_ends t) (runs_back (reverse ts)) t (since_start (reverse ts)))

pub count_of-more : (c : Class) (ts : List Lexeme) (t : Lexeme) → count_of c (ts ++ t ∷ []) ≡ cond (matches c t) 1 0 + count_of c ts
count_of-more c ts t = grind (arith, common_steps, fold-append)
