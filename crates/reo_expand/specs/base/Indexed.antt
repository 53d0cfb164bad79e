-- The values of indexes.
use Rattle.std.specs.Prelude.{ℕ, ℤ, pos, negsuc, neg_ℤ, ◌+ℤ◌, ◌-ℤ◌, Bool, true, false, cond, Option, Some, None, is_none, unwrap_or, List, [], ◌∷◌, map, fold, bytes_eq, flat_map}
use Rattle.std.specs.List.{range_with_len}
use Rattle.reo_trees.specs.declared.indexes.Index.{Index}
use Rattle.reo_trees.specs.declared.indexes.SignedUnit.{SignedUnit}
use Rattle.reo_trees.specs.declared.indexes.IndexUnit.{IndexUnit}
use Rattle.reo_trees.specs.declared.indexes.IndexUnit.TheVariants as units
use Rattle.reo_expand.specs.declared.base.bound.Bound.{Bound}

-- The value of a name: that of the last one of this name, the innermost.
abbrev pub bound_to : List Bound → List ℕ → Option ℤ
bound_to bound name = fold (λ o (b : Bound). cond (bytes_eq name b.name) (Some b.value) o) None bound

-- The value of a unit, 0 where its name has none.
abbrev pub unit_value : List Bound → IndexUnit → ℤ
unit_value bound (units.Number n) = pos n
unit_value bound (units.Name name) = unwrap_or (bound_to bound name) (pos 0)

abbrev pub signed : Bool → ℤ → ℤ
signed true z = neg_ℤ z
signed false z = z

-- The sum of units with their signs.
abbrev pub units_value : List Bound → List SignedUnit → ℤ
units_value bound [] = pos 0
units_value bound (u ∷ us) = signed u.minus (unit_value bound u.unit) +ℤ units_value bound us

abbrev pub value_of : List Bound → Index → ℤ
value_of bound i = units_value bound i.units

-- The names of an index that have no value, from left to right.
abbrev pub unbound_unit : List Bound → IndexUnit → List (List ℕ)
unbound_unit bound (units.Number n) = []
unbound_unit bound (units.Name name) = cond (is_none (bound_to bound name)) (name ∷ []) []

abbrev pub unbound_in : List Bound → Index → List (List ℕ)
unbound_in bound i = flat_map (λ (u : SignedUnit). unbound_unit bound u.unit) i.units

-- The number itself, 0 where it is negative.
abbrev pub natural : ℤ → ℕ
natural (pos n) = n
natural (negsuc n) = 0

-- How many turns there are from one value to another, and the values of these turns.
abbrev pub turn_count : ℤ → ℤ → ℕ
turn_count low high = natural ((high -ℤ low) +ℤ pos 1)

abbrev pub turns : ℤ → ℤ → List ℤ
turns low high = map (λ j. low +ℤ pos j) (range_with_len 0 (turn_count low high))
