use Rattle.std.proofs.Common.{◌≡◌, length, codes}
use Rattle.reo_grammar.specs.Tokens.Class.{fixed}
use Rattle.reo_trees.specs.Forms.{listed, further}
use Rattle.reo_trees.specs.Indexes.{ref_form}
use Rattle.reo_parser.proofs.Turns.{goes_on}
use Rattle.reo_parser.proofs.items_two.uses.arguments.Given as goal

abbrev pub invariant-arguments : goal.invariant-arguments
invariant-arguments l = goes_on listed (fixed (codes ",")) (further ref_form) 0 l.arguments l.cursor ≡ goes_on listed (fixed (codes ",")) (further ref_form) 0 l.initial.arguments l.initial.cursor

abbrev pub decreases-arguments : goal.decreases-arguments
decreases-arguments l = length l.cursor
