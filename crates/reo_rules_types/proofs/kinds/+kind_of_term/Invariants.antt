-- The expression gets smaller.
use Rattle.reo_rules_types.proofs.Sizes.{form_size}
use Rattle.reo_rules_types.proofs.kinds.+kind_of_term.Given as goal

abbrev pub decreases-kind_of_term : goal.decreases-kind_of_term
decreases-kind_of_term l = form_size l.form.now
