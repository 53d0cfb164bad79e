use Rattle.std.proofs.Common.{◌≡◌, [], length, codes}
use Rattle.reo_grammar.specs.Tokens.Class.{other}
use Rattle.reo_trees.specs.Forms.{listed}
use Rattle.reo_trees.specs.ItemsTwo.{item_two}
use Rattle.reo_parser.proofs.Turns.{goes_on}
use Rattle.reo_parser.proofs.items_two.bodies.items.Given as goal

abbrev pub invariant-items : goal.invariant-items
invariant-items l = goes_on listed (other (codes "}")) item_two l.room l.items l.cursor ≡ goes_on listed (other (codes "}")) item_two l.room [] l.initial.cursor

abbrev pub decreases-items : goal.decreases-items
decreases-items l = length l.cursor
