use Rattle.reo_exprs.proofs.KindOfType.{kind_of_typed}
use Rattle.reo_exprs.proofs.laws.kind_is_that_of_the_type.Goals as goal

pub returns : goal.returns
returns c = kind_of_typed c.args.expr.now c.args.of.now c.args.kindred.now c.requires.typed
