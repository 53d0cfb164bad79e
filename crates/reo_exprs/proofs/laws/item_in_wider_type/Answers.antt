use Rattle.reo_exprs.proofs.Lies.{item_inside}
use Rattle.reo_exprs.proofs.laws.item_in_wider_type.Goals as goal

pub returns : goal.returns
returns c = item_inside c.args.a.now c.args.b.now c.args.item.now c.requires.inside c.requires.member
