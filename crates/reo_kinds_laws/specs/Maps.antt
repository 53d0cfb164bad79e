-- What maps give.
use Rattle.std.specs.Prelude.{ℕ, ◌≡◌, true, Some}
use Rattle.reo_values.specs.declared.value.Value.{Value}
use Rattle.reo_values.specs.Kind.{IsIn}
use Rattle.reo_exprs.specs.Valued.{value_of_expr}
use Rattle.reo_net_base.specs.Behaviour.{Behaviour}
use Rattle.reo_kinds.specs.declared.kind.MapRule.{MapRule}
use Rattle.reo_kinds.specs.declared.kind.Kind.TheVariants.{Map}
use Rattle.reo_kinds.specs.Kinds.{behaviour_of}

-- The ends of a map and its rows.
abbrev pub map_of : MapRule → Behaviour
map_of rule = behaviour_of (Map rule)

-- Each row lets the item in, and gives for it the value of the map's expression on it.
pub record GivesItsValue (rule : MapRule) (item : Value) (row : ℕ) : Type 0 where
  pub lets_in : (map_of rule).passes 0 row 0 item ≡ true
  pub decides : (map_of rule).from 0 row 1 ≡ Some 0
  pub gives : (map_of rule).given 0 row 1 (Some item) ≡ Some (value_of_expr rule.expr item)

-- So it is with each item of the map's type.
abbrev pub MapsGiveValues : Type 0
MapsGiveValues = (rule : MapRule) (item : Value) (row : ℕ) → IsIn item rule.of → GivesItsValue rule item row
