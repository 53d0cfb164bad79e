use Rattle.std.proofs.Common.{◌≡◌, ◌+◌, ◌*◌, length, codes}
use Rattle.reo_grammar.specs.Tokens.Class.{fixed}
use Rattle.reo_trees.specs.Operators.{joined, products, sums}
use Rattle.reo_trees.specs.Terms.{further_product, further_sum, further_and, further_or}
use Rattle.reo_terms.proofs.Turns.{goes_on}
use Rattle.reo_terms.proofs.terms.+term.Given as goal

abbrev pub decreases-term : goal.decreases-term
decreases-term l = 14 * l.room

abbrev pub decreases-nested_unary : goal.decreases-nested_unary
decreases-nested_unary l = 14 * l.room

abbrev pub decreases-term_before : goal.decreases-term_before
decreases-term_before l = 14 * l.room + 1

abbrev pub decreases-call : goal.decreases-call
decreases-call l = 14 * l.room + 2

abbrev pub decreases-if_term : goal.decreases-if_term
decreases-if_term l = 14 * l.room + 3

abbrev pub decreases-simple : goal.decreases-simple
decreases-simple l = 14 * l.room + 4

abbrev pub decreases-group : goal.decreases-group
decreases-group l = 14 * l.room + 5

abbrev pub decreases-atom : goal.decreases-atom
decreases-atom l = 14 * l.room + 6

abbrev pub decreases-unary : goal.decreases-unary
decreases-unary l = 14 * l.room + 7

abbrev pub decreases-product : goal.decreases-product
decreases-product l = 14 * l.room + 8

abbrev pub decreases-sum : goal.decreases-sum
decreases-sum l = 14 * l.room + 9

abbrev pub decreases-comparison : goal.decreases-comparison
decreases-comparison l = 14 * l.room + 10

abbrev pub decreases-and_term : goal.decreases-and_term
decreases-and_term l = 14 * l.room + 11

abbrev pub decreases-or_term : goal.decreases-or_term
decreases-or_term l = 14 * l.room + 12

abbrev pub decreases-whole : goal.decreases-whole
decreases-whole l = 14 * l.room + 13

abbrev pub invariant-product-product : goal.invariant-product-product
invariant-product-product l = goes_on joined products further_product l.room l.left l.cursor ≡ goes_on joined products further_product l.room l.initial.left l.initial.cursor

abbrev pub decreases-product-product : goal.decreases-product-product
decreases-product-product l = length l.cursor

abbrev pub invariant-sum-sum : goal.invariant-sum-sum
invariant-sum-sum l = goes_on joined sums further_sum l.room l.left l.cursor ≡ goes_on joined sums further_sum l.room l.initial.left l.initial.cursor

abbrev pub decreases-sum-sum : goal.decreases-sum-sum
decreases-sum-sum l = length l.cursor

abbrev pub invariant-and_term-and_term : goal.invariant-and_term-and_term
invariant-and_term-and_term l = goes_on joined (fixed (codes "&&")) further_and l.room l.left l.cursor ≡ goes_on joined (fixed (codes "&&")) further_and l.room l.initial.left l.initial.cursor

abbrev pub decreases-and_term-and_term : goal.decreases-and_term-and_term
decreases-and_term-and_term l = length l.cursor

abbrev pub invariant-or_term-or_term : goal.invariant-or_term-or_term
invariant-or_term-or_term l = goes_on joined (fixed (codes "||")) further_or l.room l.left l.cursor ≡ goes_on joined (fixed (codes "||")) further_or l.room l.initial.left l.initial.cursor

abbrev pub decreases-or_term-or_term : goal.decreases-or_term-or_term
decreases-or_term-or_term l = length l.cursor
