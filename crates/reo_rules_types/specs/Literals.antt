-- Literals that are items of types.
use Rattle.std.specs.Prelude.{Bool, Some, None, cond, option_and_then, is_some}
use Rattle.reo_values.specs.declared.kindred.Kindred.{Kindred}
use Rattle.reo_values.specs.Kind.{is_item}
use Rattle.reo_trees.specs.declared.literals.Constant.{Constant}
use Rattle.reo_rules.specs.literals.Items.{value_of}

-- The literal is an item of the type.
abbrev pub is_literal : Kindred → Constant → Bool
is_literal k c = is_some (option_and_then (λ v. cond (is_item v k) (Some v) None) (value_of c k))
