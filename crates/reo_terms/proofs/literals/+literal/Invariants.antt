use Rattle.std.proofs.Common.{◌+◌, ◌*◌}
use Rattle.reo_terms.proofs.literals.+literal.Given as goal

abbrev pub decreases-literal : goal.decreases-literal
decreases-literal l = 4 * l.room

abbrev pub decreases-literal_before : goal.decreases-literal_before
decreases-literal_before l = 4 * l.room + 1

abbrev pub decreases-pair : goal.decreases-pair
decreases-pair l = 4 * l.room + 2

abbrev pub decreases-constant : goal.decreases-constant
decreases-constant l = 4 * l.room + 3
