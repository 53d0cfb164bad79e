-- The table of one part, or why it has none.
use Rattle.std.specs.Prelude.{ℕ, ◌≤◌, ◌≡◌, Bool, List, length}
use Rattle.reo_net_base.specs.declared.mark.Mark.{Mark}
use Rattle.reo_net_base.specs.Net.{Net}
use Rattle.reo_weights.specs.Over.{IsWithin, IsSpent}
use Rattle.reo_listing.specs.declared.base.fault.ListFault.{ListFault}
use Rattle.reo_listing.specs.declared.base.fault.ListFault.TheVariants.{Filter, Spent, Rows, NoMemory}
use Rattle.reo_listing.specs.base.Tables.{IsTable, HasMany, most_rows}

-- The part is within the budget, and these lists are its table.
pub record IsPartTable (budget : ℕ) (net : Net) (inside : ℕ → Bool) (ports : List ℕ) (rows : List (List Mark)) : Type 0 where
  pub within : IsWithin budget net inside
  pub table : IsTable net inside ports rows
  pub few : length rows ≤ most_rows

-- Why a part has no table. Running out of memory may come at any time.
abbrev pub IsPartFault : ℕ → Net → (ℕ → Bool) → List ℕ → ℕ → ListFault → Type 0
IsPartFault budget net inside ports part (Filter i) = ⊥
IsPartFault budget net inside ports part (Spent k weight) = (k ≡ part) × IsSpent budget net inside weight
IsPartFault budget net inside ports part (Rows k) = (k ≡ part) × IsWithin budget net inside × HasMany net inside ports
IsPartFault budget net inside ports part NoMemory = Unit {0}

-- Why a part is not searched. Running out of memory may come at any time.
abbrev pub IsBeginFault : ℕ → Net → (ℕ → Bool) → ℕ → ListFault → Type 0
IsBeginFault budget net inside part (Filter i) = ⊥
IsBeginFault budget net inside part (Spent k weight) = (k ≡ part) × IsSpent budget net inside weight
IsBeginFault budget net inside part (Rows k) = ⊥
IsBeginFault budget net inside part NoMemory = Unit {0}
