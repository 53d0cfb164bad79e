-- Literals, and the items that they stand for.
use Rattle.std.specs.Prelude.{◌≤◌, Option, Some, None, List, cond, length, bytes_eq, option_map, option_and_then}
use Rattle.std.specs.List.{position_from, filter_map}
use Rattle.reo_values.specs.declared.value.Value.{Value}
use Rattle.reo_values.specs.declared.value.Value.TheVariants as values
use Rattle.reo_values.specs.declared.kindred.Kindred as kindred
use Rattle.reo_values.specs.declared.kindred.Kindred.{Kindred}
use Rattle.reo_values.specs.Kind.{is_item}
use Rattle.reo_trees.specs.declared.literals.Constant as constant
use Rattle.reo_trees.specs.declared.literals.Constant.{Constant}
use Rattle.reo_trees.specs.declared.literals.Literal.{Literal}

-- The value that a literal's tree is, where a name is a symbol of the type.
abbrev pub value_of : Constant → Kindred → Option Value
value_of constant.Unit k = Some values.Unit
value_of (constant.Bool b) k = Some (values.Bool b)
value_of (constant.Int z) k = Some (values.Int z)
value_of (constant.Name name) (kindred.Sym names) = option_map (λ n. values.Sym n) (position_from (bytes_eq name) 0 names)
value_of (constant.Text bytes) k = Some (values.Text bytes)
value_of (constant.Pair' m (constant.more_of-LiteralPair k x l y _)) (kindred.Pair' n (kindred.more_of-Twins a b _)) =
    option_and_then (λ v. option_map (λ w. values.Pair (record { left = v; right = w })) (value_of y b)) (value_of x a)
value_of c k = None

-- The item of the type that a literal's tree is; None where it is none.
abbrev pub item_in : Kindred → Constant → Option Value
item_in k c = option_and_then (λ v. cond (is_item v k) (Some v) None) (value_of c k)

-- The item of the type that a literal is; None where it is none.
abbrev pub item_of : Kindred → Literal → Option Value
item_of k l = item_in k l.constant

-- The items that literals are.
abbrev pub items_of : Kindred → List Literal → List Value
items_of k ls = filter_map (item_of k) ls

-- No list of names in the type has more than 1,024.
abbrev pub HasFewNames : Kindred → Type 0
HasFewNames (kindred.Sym names) = length names ≤ 1024
HasFewNames (kindred.Pair' n (kindred.more_of-Twins a b _)) = HasFewNames a × HasFewNames b
HasFewNames k = Unit {0}
