use Rattle.std.proofs.Common.{take}
use Rattle.reo_grammar.specs.Levels.{Nowhere}
use Rattle.reo_lexer.specs.Lexing.{lexemes_of}
use Rattle.reo_trees.specs.SaysTwo.{IsDeepTwo}
use Rattle.reo_parser.specs.two.LoopDepth.{Deepens}
use Rattle.reo_parser.proofs.two.depth.first_deep.Given as goal

abbrev pub invariant-loop-place : goal.invariant-loop-place
invariant-loop-place l =
    record { counts : Deepens l.depth (take l.place (lexemes_of l.text l.tokens)); below : Nowhere IsDeepTwo (take l.place (lexemes_of l.text l.tokens)) }
