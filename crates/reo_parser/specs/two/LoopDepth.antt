-- What is counted over tokens for what is too deep in a text of version 2.
use Rattle.std.specs.Prelude.{◌≡◌, List, codes}
use Rattle.reo_grammar.specs.Tokens.{Lexeme}
use Rattle.reo_grammar.specs.Tokens.Class.{fixed}
use Rattle.reo_grammar.specs.Levels.{count_of}
use Rattle.reo_trees.specs.loops.Places.{lets_item, begins_loop}
use Rattle.reo_terms.specs.Counting.{Counts}
use Rattle.reo_parser.specs.declared.two.depth.LoopDepth.{LoopDepth as ADepth}

-- The counts of these tokens.
pub record Deepens (d : ADepth) (ts : List Lexeme) : Type 0 where
  pub levels : Counts d.levels ts
  pub opened : d.opened ≡ count_of (fixed (codes "{")) ts
  pub closed : d.closed ≡ count_of (fixed (codes "}")) ts
  pub starting : d.starting ≡ lets_item ts
  pub looping : d.looping ≡ begins_loop ts
