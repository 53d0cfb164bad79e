use Rattle.reo_exprs.proofs.ValidType.{type_valid}
use Rattle.reo_exprs.proofs.laws.type_is_valid.Goals as goal

pub returns : goal.returns
returns c = type_valid c.args.expr.now c.args.of.now c.args.kindred.now c.requires.sound c.requires.typed c.requires.valid
