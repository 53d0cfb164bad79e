-- What is known of the types in a table.
use Rattle.std.specs.Prelude.{◌≡◌, ℕ, List, Some, length, slice_get}
use Rattle.reo_values.specs.declared.kindred.Kindred.{Kindred}
use Rattle.reo_exprs.specs.Kinds.{kind_of}
use Rattle.reo_rules.specs.Lists.{has_name}
use Rattle.reo_rules_types.specs.declared.cell.TypeParts.{TypeParts}
use Rattle.reo_rules_types.specs.declared.types.Facts.{Facts}
use Rattle.reo_rules_types.specs.Cells.{kindred_of, leaf, is_symbol, Fits}

-- The cell with a number, and what is known of it.
pub record IsCell (types : List Kindred) (n : ℕ) (c : TypeParts) (f : Facts) : Type 0 where
  pub fits : Fits n c
  pub is : slice_get types n ≡ Some (kindred_of types c)
  pub kind : slice_get types f.kind ≡ Some (kind_of (kindred_of types c))
  pub symbols : (name : List ℕ) → has_name f.symbols name ≡ is_symbol (kindred_of types c) name
  pub leaf : f.leaf ≡ leaf (kindred_of types c)

-- These are the cells of the types, and no type has two numbers.
pub record AreCells (types : List Kindred) (entries : List (TypeParts × Facts)) : Type 0 where
  pub each : (n : ℕ) (c : TypeParts) (f : Facts) → slice_get entries n ≡ Some (c, f) → IsCell types n c f
  pub once : (m n : ℕ) (k : Kindred) → slice_get types m ≡ Some k → slice_get types n ≡ Some k → m ≡ n
  pub as_many : length types ≡ length entries
