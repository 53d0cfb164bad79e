-- The canonical text of indexes, and of names of nodes with a place.
use Rattle.std.specs.Prelude.{ℕ, zero, suc, Bool, true, false, Option, Some, None, List, [], ◌∷◌, ◌++◌, codes}
use Rattle.std.specs.Fmt.{decimal}
use Rattle.std.specs.List.{flat_map}
use Rattle.reo_trees.specs.declared.indexes.Index.{Index}
use Rattle.reo_trees.specs.declared.indexes.SignedUnit.{SignedUnit}
use Rattle.reo_trees.specs.declared.indexes.IndexUnit.{IndexUnit}
use Rattle.reo_trees.specs.declared.indexes.IndexUnit.TheVariants as units
use Rattle.reo_trees.specs.declared.indexes.Ref.{Ref}

abbrev pub unit_text : IndexUnit → List ℕ
unit_text (units.Number n) = decimal n
unit_text (units.Name name) = name

abbrev pub sign_text : Bool → List ℕ
sign_text true = codes " - "
sign_text false = codes " + "

-- What stands before the unit at a place: nothing before the first.
abbrev pub sign_at : ℕ → Bool → List ℕ
sign_at zero minus = []
sign_at (suc place) minus = sign_text minus

abbrev pub further_text : SignedUnit → List ℕ
further_text u = sign_text u.minus ++ unit_text u.unit

abbrev pub units_text : List SignedUnit → List ℕ
units_text [] = []
units_text (u ∷ us) = unit_text u.unit ++ flat_map further_text us

abbrev pub index_text : Index → List ℕ
index_text i = units_text i.units

-- In parentheses, unless it is one unit.
abbrev pub place_text : List SignedUnit → List ℕ
place_text (u ∷ []) = unit_text u.unit
place_text us = codes "(" ++ (units_text us ++ codes ")")

abbrev pub placed_text : Option Index → List ℕ
placed_text None = []
placed_text (Some i) = codes "." ++ place_text i.units

abbrev pub ref_text : Ref → List ℕ
ref_text r = r.name ++ placed_text r.place
