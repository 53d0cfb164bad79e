-- Lists that are added to others.
use Rattle.std.specs.Prelude.{ℕ, ◌+◌, ◌<◌, ◌≡◌, ◌++◌, Bool, List, length}
use Rattle.reo_net_base.specs.declared.mark.Mark.{Mark}
use Rattle.reo_net_base.specs.Net.{Net}
use Rattle.reo_listing.specs.declared.base.fault.ListFault.{ListFault}
use Rattle.reo_listing.specs.declared.base.fault.ListFault.TheVariants.{Filter, Spent, Rows, NoMemory}
use Rattle.reo_listing.specs.base.Tables.{AreMet, IsTable, most_rows}

-- The table of a set comes behind what was there.
pub record Extends (net : Net) (inside : ℕ → Bool) (ports : List ℕ) (old new : List (List Mark)) : Type 0 where
  pub more : List (List Mark)
  pub new_is : new ≡ old ++ more
  pub table : IsTable net inside ports more

-- With lists of the set there would be too many.
pub record HasMoreThanMost (net : Net) (inside : ℕ → Bool) (ports : List ℕ) (old : List (List Mark)) : Type 0 where
  pub more : List (List Mark)
  pub are : AreMet net inside ports more
  pub many : most_rows < length old + length more

-- Why the table of a part is not added to other lists. Running out of memory may come at any time.
abbrev pub IsExtendFault : Net → (ℕ → Bool) → List ℕ → List (List Mark) → ℕ → ListFault → Type 0
IsExtendFault net inside ports old part (Filter i) = ⊥
IsExtendFault net inside ports old part (Spent k weight) = ⊥
IsExtendFault net inside ports old part (Rows k) = (k ≡ part) × HasMoreThanMost net inside ports old
IsExtendFault net inside ports old part NoMemory = Unit {0}
