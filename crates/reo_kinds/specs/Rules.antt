-- What filters and maps do with an item. An item outside the source end's type is not accepted, and its image is `unit`.
use Rattle.std.specs.Prelude.{◌&&◌, Bool, cond}
use Rattle.reo_values.specs.declared.value.Value.{Value}
use Rattle.reo_values.specs.declared.value.Value.TheVariants as values
use Rattle.reo_exprs.specs.Valued.{truth, value_of_expr}
use Rattle.reo_kinds.specs.declared.kind.FilterRule.{FilterRule}
use Rattle.reo_kinds.specs.declared.kind.MapRule.{MapRule}
use Rattle.reo_values.specs.Kind.{is_item}

-- whether the item is of the filter's type, and the filter's expression is true of it
abbrev pub accepts : FilterRule → Value → Bool
accepts rule item = is_item item rule.of && truth (value_of_expr rule.expr item)

-- the value of the map's expression on the item
abbrev pub image : MapRule → Value → Value
image rule item = cond (is_item item rule.of) (value_of_expr rule.expr item) values.Unit
