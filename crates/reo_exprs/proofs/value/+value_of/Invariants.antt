use Rattle.reo_exprs.specs.Views.{work}
use Rattle.reo_exprs.proofs.value.+value_of.Given as goal

abbrev pub decreases-value_of : goal.decreases-value_of
decreases-value_of l = work l.expr.now
