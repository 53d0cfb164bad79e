-- The expression gets smaller.
use Rattle.std.proofs.Common.{◌+◌, ◌*◌}
use Rattle.reo_rules_types.proofs.Sizes.{form_size}
use Rattle.reo_rules_types.proofs.exprs.+resolving.Given as goal

abbrev pub decreases-expr_of_term : goal.decreases-expr_of_term
decreases-expr_of_term l = 2 * form_size l.form.now

abbrev pub decreases-two_of : goal.decreases-two_of
decreases-two_of l = 2 * (form_size l.left.now.form + form_size l.right.now.form) + 1
