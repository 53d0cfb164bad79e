use Rattle.std.proofs.Common.{◌≡◌, ◌+◌, ◌*◌, [], length, codes}
use Rattle.reo_grammar.specs.Tokens.Class.{other}
use Rattle.reo_grammar.specs.Grammar.Grammar.{rule}
use Rattle.reo_trees.specs.Forms.{listed}
use Rattle.reo_trees.specs.Forms.Rule.{looped_rule}
use Rattle.reo_parser.proofs.Turns.{goes_on}
use Rattle.reo_parser.proofs.items_two.loops.+looped.Given as goal

abbrev pub decreases-looped : goal.decreases-looped
decreases-looped l = 4 * l.room

abbrev pub decreases-looped_items : goal.decreases-looped_items
decreases-looped_items l = 4 * l.room + 1

abbrev pub decreases-looping : goal.decreases-looping
decreases-looping l = 4 * l.room + 2

abbrev pub decreases-some_looped : goal.decreases-some_looped
decreases-some_looped l = 4 * l.room + 3

abbrev pub invariant-looped_items-items : goal.invariant-looped_items-items
invariant-looped_items-items l = goes_on listed (other (codes "}")) (rule looped_rule) l.room l.items l.cursor ≡ goes_on listed (other (codes "}")) (rule looped_rule) l.room [] l.initial.cursor

abbrev pub decreases-looped_items-items : goal.decreases-looped_items-items
decreases-looped_items-items l = length l.cursor
