-- The written type gets smaller.
use Rattle.reo_rules_types.proofs.Sizes.{shape_size}
use Rattle.reo_rules_types.proofs.shapes.+number_of.Given as goal

abbrev pub decreases-number_of : goal.decreases-number_of
decreases-number_of l = shape_size l.shape.now
