-- Types in a table by name, with the symbols of those that are sym types.
use Rattle.std.specs.Prelude.{◌≡◌, ◌<◌, ℕ, Option, Some, None, List, [], length, slice_index_or}
use Rattle.reo_values.specs.declared.kindred.Kindred.{Kindred}
use Rattle.reo_rules.specs.Types.{Typed, type_named, names_of}
use Rattle.reo_rules.specs.Unknown.{missing, lacking}
use Rattle.reo_rules_names.specs.declared.types.DeclaredTypes.{DeclaredTypes}
use Rattle.reo_rules_names.specs.SameNames.{SameNames}
use Rattle.reo_rules_names.specs.Values.{value_at}

-- A type that lacks no symbol, since it is no sym type.
abbrev pub LacksNone : Kindred → Type 0
LacksNone kindred = (line : ℕ) (symbol : List ℕ) → lacking kindred line symbol ≡ []

-- A type that lacks exactly the symbols that are none of these.
abbrev pub LacksOthers : Kindred → List (List ℕ) → Type 0
LacksOthers kindred symbols = (line : ℕ) (symbol : List ℕ) → lacking kindred line symbol ≡ missing symbols line symbol

-- The symbols of a type are those in the set of this number; without a number it has none.
abbrev pub IsSetOf : List (List (List ℕ)) → Option ℕ → Kindred → Type 0
IsSetOf sets None kindred = LacksNone kindred
IsSetOf sets (Some number) kindred = (number < length sets) × LacksOthers kindred (slice_index_or sets number [])

-- The table has the names of these types, and beside each the number of the symbols of the first that is called so.
pub record AreTypes (known : List Typed) (table : DeclaredTypes) : Type 0 where
  pub names : SameNames table.names (names_of known)
  pub paired : length table.names ≡ length table.numbers
  pub symbols : (name : List ℕ) → IsSetOf table.sets (value_at None table.names table.numbers name) (type_named known name)
