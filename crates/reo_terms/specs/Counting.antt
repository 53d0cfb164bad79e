-- What is counted over tokens for their levels.
use Rattle.std.specs.Prelude.{◌≡◌, List, codes}
use Rattle.reo_grammar.specs.Tokens.{Lexeme}
use Rattle.reo_grammar.specs.Tokens.Class.{fixed}
use Rattle.reo_grammar.specs.Levels.{count_of, operators_at, in_term}
use Rattle.reo_terms.specs.declared.levels.Levels.{Levels}

-- The counts of these tokens.
pub record Counts (l : Levels) (ts : List Lexeme) : Type 0 where
  pub opened : l.opened ≡ count_of (fixed (codes "(")) ts
  pub closed : l.closed ≡ count_of (fixed (codes ")")) ts
  pub operators : l.operators ≡ operators_at ts
  pub running : l.in_term ≡ in_term ts
