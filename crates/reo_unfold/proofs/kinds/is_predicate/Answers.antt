-- An expression without a kind has no type.
use Rattle.std.proofs.Common.{Err, sym, ap}
use Rattle.reo_unfold.specs.Known.{is_truth}
use Rattle.reo_exprs.proofs.KindOfType.{untyped}
use Rattle.reo_unfold.proofs.kinds.is_predicate.Goals as goal

pub returns-in-Err-Mistyped : goal.returns-in-Err-Mistyped
returns-in-Err-Mistyped c = sym (ap is_truth (untyped c.args.expr.now c.args.of.now (c.in-Err-Mistyped.ensures.mistyped (ap Err c.in-Err-Mistyped.field-0-is))))
