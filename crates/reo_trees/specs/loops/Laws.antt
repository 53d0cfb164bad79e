-- Laws of loops in one another, in tokens and in trees.
use Rattle.std.specs.Prelude.{◌≡◌, ◌↔◌, ℕ, ◌+◌, ◌<◌, true, List, codes}
use Rattle.reo_grammar.specs.Tokens.{Lexeme}
use Rattle.reo_grammar.specs.Tokens.Class.{fixed}
use Rattle.reo_grammar.specs.Grammar.{Says}
use Rattle.reo_grammar.specs.Levels.{Nowhere, count_of}
use Rattle.reo_trees.specs.declared.programs_two.ProgramTwo.{ProgramTwo}
use Rattle.reo_trees.specs.ProgramsTwo.{program_two}
use Rattle.reo_trees.specs.Rules.{circuit_rules}
use Rattle.reo_trees.specs.SaysTwo.{IsLooped, most_loops}
use Rattle.reo_trees.specs.loops.Places.{begins_loop}
use Rattle.reo_trees.specs.loops.Few.{few_in_program}

-- Tokens end with a loop in so many others exactly where a loop begins with the last of them and so many `{` are open.
abbrev pub LoopsByLastTokens : Type 0
LoopsByLastTokens = (limit : ℕ) (ts : List Lexeme)
    → IsLooped limit ts ↔ ((begins_loop ts ≡ true) × (limit + count_of (fixed (codes "}")) ts < count_of (fixed (codes "{")) ts))

-- Tokens that say a program have no loop within eight others exactly where the program has at most eight loops in one another.
abbrev pub LoopsByTrees : Type 0
LoopsByTrees = (ts : List Lexeme) (p : ProgramTwo) → Says circuit_rules program_two ts p → Nowhere (IsLooped most_loops) ts ↔ (few_in_program most_loops p ≡ true)
