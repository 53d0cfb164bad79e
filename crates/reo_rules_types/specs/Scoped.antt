-- Names with the numbers of their types.
use Rattle.std.specs.Prelude.{◌≡◌, ℕ, ◌<◌, List, [], ◌∷◌, map, unwrap_or, bytes_eq, length, Some, slice_get}
use Rattle.std.specs.Map.{lookup}
use Rattle.reo_values.specs.declared.kindred.Kindred.{Kindred}
use Rattle.reo_values.specs.declared.kindred.Kindred.TheVariants as kinds
use Rattle.reo_rules.specs.Types.{Typed}
use Rattle.reo_rules_types.specs.Cells.{type_at}

-- The number of the first entry of this name; 0 where there is none.
abbrev pub number_named : List (List ℕ × ℕ) → List ℕ → ℕ
number_named entries name = unwrap_or (lookup (bytes_eq name) entries) 0

-- The names with their types.
abbrev pub typed : List Kindred → List (List ℕ × ℕ) → List Typed
typed types entries = map (λ (e : List ℕ × ℕ). record { name = e.0; kindred = type_at types e.1 }) entries

-- Each number is below this one.
abbrev pub AreBelow : ℕ → List (List ℕ × ℕ) → Type 0
AreBelow n [] = Unit {0}
AreBelow n (e ∷ es) = (e.1 < n) × AreBelow n es

-- The numbers are those of types, and 0 is that of `unit`.
pub record AreKnown (types : List Kindred) (entries : List (List ℕ × ℕ)) : Type 0 where
  pub unit : slice_get types 0 ≡ Some kinds.Unit
  pub below : AreBelow (length types) entries
