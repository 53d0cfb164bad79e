-- Which types a program may have.
use Rattle.std.specs.Prelude.{ℕ, ◌≡◌, ◌<◌, ◌≤◌, ◌≤ℤ◌, List, [], length, slice_index_or, FitsSigned}
use Rattle.std.specs.Int.{w64}
use Rattle.std.specs.List.{All}
use Rattle.reo_values.specs.declared.kindred.Kindred as kindred
use Rattle.reo_values.specs.declared.kindred.Kindred.{Kindred}
use Rattle.reo_values.specs.Names.{IsName}

-- no item of the list stands at two places
abbrev pub AreDistinct : List (List ℕ) → Type 0
AreDistinct names = (i j : ℕ) → i < length names → j < length names → slice_index_or names i [] ≡ slice_index_or names j [] → i ≡ j

-- the names of a type: at most 1,024 names, each once
pub record AreNames (names : List (List ℕ)) : Type 0 where
  pub few : length names ≤ 1024
  pub words : All IsName names
  pub distinct : AreDistinct names

-- in each part of the type the names are such, and the bounds are numbers of 64 bits in order
abbrev pub IsValid : Kindred → Type 0
IsValid kindred.Unit = Unit {0}
IsValid kindred.Bool = Unit {0}
IsValid (kindred.Int low high) = FitsSigned w64 low × FitsSigned w64 high × (low ≤ℤ high)
IsValid (kindred.Sym names) = AreNames names
IsValid (kindred.Text most) = Unit {0}
IsValid (kindred.Pair' n (kindred.more_of-Twins a b _)) = IsValid a × IsValid b
