-- Types by name, as a list.
use Rattle.std.specs.Prelude.{◌≡◌, List, map, Option, Some, None, Bool, true, false}
use Rattle.reo_values.specs.declared.kindred.Kindred.{Kindred}
use Rattle.reo_values.specs.declared.kindred.Kindred.TheVariants as kinds
use Rattle.reo_trees.specs.declared.types.Shape.{Shape}
use Rattle.reo_rules.specs.Types.{Typed, names_of, resolved}
use Rattle.reo_unfold.specs.declared.types.NamedTypes.{NamedTypes}

-- The types are these, in their order.
pub record AreTypes (ts : List Typed) (types : NamedTypes) : Type 0 where
  pub names : types.names ≡ names_of ts
  pub kindreds : types.kindreds ≡ map (λ (e : Typed). e.kindred) ts

-- What a node is of that is declared with a type, or not at all.
abbrev pub shape_type : List Typed → Option Shape → Kindred
shape_type ts None = kinds.Unit
shape_type ts (Some shape) = resolved ts shape

-- The type is that of truth values.
abbrev pub is_truth : Option Kindred → Bool
is_truth (Some kinds.Bool) = true
is_truth t = false
