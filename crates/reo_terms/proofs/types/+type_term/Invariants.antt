use Rattle.std.proofs.Common.{◌+◌, ◌*◌}
use Rattle.reo_terms.proofs.types.+type_term.Given as goal

abbrev pub decreases-type_term : goal.decreases-type_term
decreases-type_term l = 4 * l.room

abbrev pub decreases-type_before : goal.decreases-type_before
decreases-type_before l = 4 * l.room + 1

abbrev pub decreases-pair_shape : goal.decreases-pair_shape
decreases-pair_shape l = 4 * l.room + 2

abbrev pub decreases-shape : goal.decreases-shape
decreases-shape l = 4 * l.room + 3
