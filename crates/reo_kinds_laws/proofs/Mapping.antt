-- What maps give.
use Rattle.std.proofs.Common.{Bool, Some, cond, refl, ap}
use Rattle.reo_values.specs.declared.value.Value.TheVariants as values
use Rattle.reo_values.proofs.Tests.{is_item-is}
use Rattle.reo_exprs.specs.Valued.{value_of_expr}
use Rattle.reo_kinds_laws.specs.Maps.{MapsGiveValues}

pub valued : MapsGiveValues
valued rule item row is = record {
  lets_in = refl;
  decides = refl;
  gives = ap (λ (t : Bool). Some (cond t (value_of_expr rule.expr item) values.Unit)) ((is_item-is item rule.of).1 is);
}
