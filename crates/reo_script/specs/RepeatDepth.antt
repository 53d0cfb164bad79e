-- What is counted over tokens for what is too deep in a script.
use Rattle.std.specs.Prelude.{◌≡◌, true, false, Bool, List, [], ◌∷◌, ◌++◌, codes}
use Rattle.reo_grammar.specs.Tokens.{Lexeme, matches}
use Rattle.reo_grammar.specs.Tokens.Class.{fixed}
use Rattle.reo_grammar.specs.Levels.{count_of}
use Rattle.reo_terms.specs.Counting.{Counts}
use Rattle.reo_script.specs.declared.depth.RepeatDepth.{RepeatDepth as ADepth}

-- Whether the last of the tokens is a `repeat`.
abbrev pub EndsRepeated : Bool → List Lexeme → Type 0
EndsRepeated true ts = (a : List Lexeme) × (t : Lexeme) × (ts ≡ a ++ t ∷ []) × (matches (fixed (codes "repeat")) t ≡ true)
EndsRepeated false ts = (a : List Lexeme) (t : Lexeme) → ts ≡ a ++ t ∷ [] → matches (fixed (codes "repeat")) t ≡ true → ⊥

-- The counts of these tokens.
pub record Deepens (d : ADepth) (ts : List Lexeme) : Type 0 where
  pub levels : Counts d.levels ts
  pub opened : d.opened ≡ count_of (fixed (codes "{")) ts
  pub closed : d.closed ≡ count_of (fixed (codes "}")) ts
  pub repeated : EndsRepeated d.repeated ts
