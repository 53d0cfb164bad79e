-- A type that lies outside, or none.
use Rattle.std.proofs.Common.{◌∙◌, Err, sym, ap}
use Rattle.std.specs.Prelude.{not}
use Rattle.reo_rules.specs.Ranges.{lies_in}
use Rattle.reo_exprs.proofs.KindOfType.{untyped}
use Rattle.reo_rules_types.proofs.Ranged.{inside_is}
use Rattle.reo_rules_types.proofs.range.lies_outside.Goals as goal

pub returns-in-Ok : goal.returns-in-Ok
returns-in-Ok c = ap not (inside_is c.lies_inside.result c.in-Ok.kindred c.args.target.now c.lies_inside.ensures ∙ ap (lies_in c.args.target.now) (sym c.in-Ok.ensures.typed))

pub returns-in-Err-Mistyped : goal.returns-in-Err-Mistyped
returns-in-Err-Mistyped c = ap (λ o. not (lies_in c.args.target.now o)) (sym (untyped c.args.expr.now c.args.of.now (c.in-Err-Mistyped.ensures.mistyped (ap Err c.in-Err-Mistyped.field-0-is))))
