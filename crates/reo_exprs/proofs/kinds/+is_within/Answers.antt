use Rattle.std.proofs.Common.{rules, sym}
use Rattle.reo_exprs.proofs.Twinned.{within-Pair, within-other}
use Rattle.reo_exprs.proofs.kinds.+is_within.Goals as goal

pub returns-then-is_within : goal.returns-then-is_within
returns-then-is_within t c = rw (c.in-Pair.is, within-Pair c.in-Pair.twins, ← c.get-twins.ensures) (search rules)

pub returns-else-is_within : goal.returns-else-is_within
returns-else-is_within t c = rw (c.in-Pair.is, within-Pair c.in-Pair.twins, ← c.get-twins.ensures) (search rules)

pub returns-in_default : goal.returns-in_default
returns-in_default t c = sym (within-other c.args.kindred.now c.in_default.not-Int c.in_default.not-Pair)
