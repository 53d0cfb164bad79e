use Rattle.std.proofs.Common.{rules}
use Rattle.reo_exprs.proofs.Twinned.{joins-Pair, joins_Pair-other}
use Rattle.reo_exprs.proofs.kinds.+joins.Goals as goal

pub returns-then-joins : goal.returns-then-joins
returns-then-joins t c = rw (c.in-Pair-Pair.is-0, c.in-Pair-Pair.is-1, joins-Pair c.in-Pair-Pair.x c.in-Pair-Pair.y, ← c.get-x.ensures, ← c.get-y.ensures) (search rules)

pub returns-else-joins : goal.returns-else-joins
returns-else-joins t c = rw (c.in-Pair-Pair.is-0, c.in-Pair-Pair.is-1, joins-Pair c.in-Pair-Pair.x c.in-Pair-Pair.y, ← c.get-x.ensures, ← c.get-y.ensures) (search rules)

pub returns-in_default-6 : goal.returns-in_default-6
returns-in_default-6 t c = rw (c.in_default.is-0, joins_Pair-other _ _ c.in_default.not-Pair-1) (search rules)
