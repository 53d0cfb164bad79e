use Rattle.std.proofs.Common.{◌≡◌, length, codes}
use Rattle.reo_grammar.specs.Tokens.Class.{fixed}
use Rattle.reo_trees.specs.Forms.{listed, further, name_form}
use Rattle.reo_terms.proofs.Turns.{goes_on}
use Rattle.reo_terms.proofs.types.names.Given as goal

abbrev pub invariant-names : goal.invariant-names
invariant-names l =
    goes_on listed (fixed (codes ",")) (further name_form) 0 l.names l.cursor ≡ goes_on listed (fixed (codes ",")) (further name_form) 0 l.initial.names l.initial.cursor

abbrev pub decreases-names : goal.decreases-names
decreases-names l = length l.cursor
