use Rattle.reo_exprs.proofs.Choices.{pair_typed}
use Rattle.reo_exprs.proofs.typing.two_type.Goals as goal

pub returns-in_ok-new-in-Pair : goal.returns-in_ok-new-in-Pair
returns-in_ok-new-in-Pair c = pair_typed c.args.op c.args.x c.args.y c.in_ok-new-in-Pair.field-0 c.in-Pair.is c.in_ok-new-in-Pair.ensures c.requires.left c.requires.right
