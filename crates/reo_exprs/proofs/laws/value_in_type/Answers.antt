use Rattle.reo_exprs.proofs.InType.{value_in_type}
use Rattle.reo_exprs.proofs.laws.value_in_type.Goals as goal

pub returns : goal.returns
returns c = value_in_type c.args.expr.now c.args.of.now c.args.kindred.now c.args.item.now c.requires.sound c.requires.typed c.requires.member
