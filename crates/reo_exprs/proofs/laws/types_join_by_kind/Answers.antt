use Rattle.reo_exprs.proofs.Kinded.{join_by_kind}
use Rattle.reo_exprs.proofs.laws.types_join_by_kind.Goals as goal

pub returns : goal.returns
returns c = join_by_kind c.args.a.now c.args.b.now
