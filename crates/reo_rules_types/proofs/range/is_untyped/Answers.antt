-- An expression without a kind has no type.
use Rattle.std.proofs.Common.{Err, sym, ap}
use Rattle.std.specs.Prelude.{is_none}
use Rattle.reo_exprs.proofs.KindOfType.{untyped}
use Rattle.reo_rules_types.proofs.range.is_untyped.Goals as goal

pub returns-in-Err-Mistyped : goal.returns-in-Err-Mistyped
returns-in-Err-Mistyped c = ap is_none (sym (untyped c.args.expr.now c.args.of.now (c.in-Err-Mistyped.ensures.mistyped (ap Err c.in-Err-Mistyped.field-0-is))))
