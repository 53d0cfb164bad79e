-- How deep parentheses and operators stand at a token, counted on the tokens alone, from the first one up to
-- and including it.
use Rattle.std.specs.Prelude.{◌≡◌, ℕ, ◌+◌, ◌<◌, Bool, true, false, cond, List, [], ◌∷◌, ◌++◌, reverse, count_by, codes}
use Rattle.reo_grammar.specs.Tokens.{Lexeme, Class, matches}
use Rattle.reo_grammar.specs.Tokens.Class.{fixed, among}

-- The signs of terms that are counted.
abbrev pub operators : Class
operators = among
    (codes "||" ∷ codes "&&" ∷ codes "==" ∷ codes "!=" ∷ codes "<" ∷ codes "<=" ∷ codes ">" ∷ codes ">=" ∷ codes "+" ∷ codes "-"
    ∷ codes "*" ∷ codes "/" ∷ codes "%" ∷ codes "!" ∷ [])

-- The words behind which operators are counted, and the signs that end it.
abbrev pub term_starts : Class
term_starts = among (codes "when" ∷ codes "to" ∷ [])

abbrev pub term_ends : Class
term_ends = among (codes ";" ∷ codes "{" ∷ codes "}" ∷ [])

abbrev pub count_of : Class → List Lexeme → ℕ
count_of c ts = count_by (matches c) ts

-- From the last token back: a word that starts a term comes before a sign that ends one.
abbrev pub runs_back : List Lexeme → Bool
runs_back [] = false
runs_back (t ∷ ts) = cond (matches term_starts t) true (cond (matches term_ends t) false (runs_back ts))

abbrev pub in_term : List Lexeme → Bool
in_term ts = runs_back (reverse ts)

-- From the last token back: those behind the latest word that starts a term.
abbrev pub since_start : List Lexeme → List Lexeme
since_start [] = []
since_start (t ∷ ts) = cond (matches term_starts t) [] (t ∷ since_start ts)

-- The operators behind the latest `when` or `to`, where no `;`, `{` or `}` stands behind it.
abbrev pub operators_at : List Lexeme → ℕ
operators_at ts = cond (in_term ts) (count_of operators (since_start (reverse ts))) 0

-- The level at the last of these tokens, the number of `(` less that of `)` and the operators, is above a limit.
abbrev pub IsAbove : ℕ → List Lexeme → Type 0
IsAbove limit ts = limit + count_of (fixed (codes ")")) ts < count_of (fixed (codes "(")) ts + operators_at ts

-- A fact on fronts holds of none of them.
abbrev pub Nowhere : (List Lexeme → Type 0) → List Lexeme → Type 0
Nowhere P ts = (a u : List Lexeme) (t : Lexeme) → ts ≡ a ++ (t ∷ u) → P (a ++ (t ∷ [])) → ⊥
