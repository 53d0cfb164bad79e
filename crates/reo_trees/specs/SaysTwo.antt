-- What a circuit text of either version says.
use Rattle.std.specs.Prelude.{◌≡◌, ◌⊎◌, ℕ, ◌+◌, ◌<◌, true, List, [], ◌∷◌, ◌++◌, codes}
use Rattle.reo_grammar.specs.Tokens.{Lexeme, Class, matches}
use Rattle.reo_grammar.specs.Tokens.Class.{fixed, among, named}
use Rattle.reo_grammar.specs.Grammar.{Says}
use Rattle.reo_grammar.specs.Levels.{IsAbove, Nowhere, count_of}
use Rattle.reo_lexer.specs.declared.token.Token.{Token}
use Rattle.reo_lexer.specs.Lexing.{IsTokens, lexemes_of}
use Rattle.reo_trees.specs.declared.programs_two.ProgramTwo.{ProgramTwo}
use Rattle.reo_trees.specs.declared.programs_two.AnyProgram.{AnyProgram}
use Rattle.reo_trees.specs.declared.programs_two.AnyProgram.TheVariants.{One, Two}
use Rattle.reo_trees.specs.Rules.{circuit_rules}
use Rattle.reo_trees.specs.Says.{SaysProgram, most_levels}
use Rattle.reo_trees.specs.ProgramsTwo.{program_two}

-- What an item stands behind.
abbrev pub item_starts : Class
item_starts = among (codes "{" ∷ codes "}" ∷ codes ";" ∷ [])

-- The last of these tokens begins a loop that stands in so many others; a `{` more is open there, that of its connector.
-- Where so many are open, only loops have braces.
abbrev pub IsLooped : ℕ → List Lexeme → Type 0
IsLooped limit ts =
    (a : List Lexeme) × (b : Lexeme) × (t : Lexeme) × (ts ≡ a ++ (b ∷ t ∷ [])) × (matches item_starts b ≡ true) × (matches (named (codes "for")) t ≡ true)
    × (limit + count_of (fixed (codes "}")) ts < count_of (fixed (codes "{")) ts)

-- The most loops, one in another.
abbrev pub most_loops : ℕ
most_loops = 8

-- A level above 64, or a loop within eight others.
abbrev pub IsDeepTwo : List Lexeme → Type 0
IsDeepTwo ts = IsAbove most_levels ts ⊎ IsLooped most_loops ts

-- The text's tokens say the program of version 2, and none of them is too deep.
abbrev pub SaysTwo : List ℕ → ProgramTwo → Type 0
SaysTwo text p = (ts : List Token) × IsTokens text ts × Says circuit_rules program_two (lexemes_of text ts) p × Nowhere IsDeepTwo (lexemes_of text ts)

-- The text says the program, of whichever version it is.
abbrev pub SaysAny : List ℕ → AnyProgram → Type 0
SaysAny text (One p) = SaysProgram text p
SaysAny text (Two p) = SaysTwo text p
