-- Types by number: each is a cell, whose parts are numbers of types before it.
use Rattle.std.specs.Prelude.{◌≡◌, ℕ, ◌<◌, Bool, false, List, [], ◌∷◌, ◌++◌, map, fold, Some, slice_get, slice_index_or}
use Rattle.reo_values.specs.declared.kindred.Kindred as kindred
use Rattle.reo_values.specs.declared.kindred.Kindred.{Kindred}
use Rattle.reo_values.specs.declared.kindred.Kindred.TheVariants as kinds
use Rattle.reo_rules.specs.Lists.{has_name}
use Rattle.reo_rules_types.specs.declared.cell.TypeParts.{TypeParts}
use Rattle.reo_rules_types.specs.declared.cell.TypeParts.TheVariants as cells

-- The type with a number; `unit` where there is none.
abbrev pub type_at : List Kindred → ℕ → Kindred
type_at types n = slice_index_or types n kinds.Unit

-- The type that a cell is, by the types that its numbers name.
abbrev pub kindred_of : List Kindred → TypeParts → Kindred
kindred_of types cells.Unit = kinds.Unit
kindred_of types cells.Bool = kinds.Bool
kindred_of types (cells.Int low high) = kinds.Int low high
kindred_of types (cells.Sym names) = kinds.Sym (map (λ v. v.items) names.items)
kindred_of types (cells.Text most) = kinds.Text most
kindred_of types (cells.Pair left right) = kinds.Pair (record { left = type_at types left; right = type_at types right })

-- A type that is no pair, and `unit` for a pair.
abbrev pub leaf : Kindred → Kindred
leaf (kindred.Pair' n (kindred.more_of-Twins a b _)) = kinds.Unit
leaf k = k

-- The types of cells, each by those before it.
abbrev pub kindreds_of : List TypeParts → List Kindred
kindreds_of cs = fold (λ types c. types ++ kindred_of types c ∷ []) [] cs

-- The numbers in a cell are below this one.
abbrev pub Fits : ℕ → TypeParts → Type 0
Fits n (cells.Pair left right) = (left < n) × (right < n)
Fits n c = Unit {0}

-- The name is a symbol of the type.
abbrev pub is_symbol : Kindred → List ℕ → Bool
is_symbol (kinds.Sym names) name = has_name names name
is_symbol k name = false

-- Each type keeps its number.
abbrev pub Keeps : List Kindred → List Kindred → Type 0
Keeps old new = (n : ℕ) (k : Kindred) → slice_get old n ≡ Some k → slice_get new n ≡ Some k
