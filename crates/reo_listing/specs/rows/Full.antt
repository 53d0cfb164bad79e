-- Why no list is added to a table.
use Rattle.std.specs.Prelude.{ℕ, ◌≤◌, ◌≡◌}
use Rattle.reo_listing.specs.declared.base.fault.ListFault.{ListFault}
use Rattle.reo_listing.specs.declared.base.fault.ListFault.TheVariants.{Filter, Spent, Rows, NoMemory}
use Rattle.reo_listing.specs.base.Tables.{most_rows}

-- As many lists are there as there may be. Running out of memory may come at any time.
abbrev pub IsFull : ℕ → ℕ → ListFault → Type 0
IsFull count part (Filter i) = ⊥
IsFull count part (Spent k weight) = ⊥
IsFull count part (Rows k) = (k ≡ part) × (most_rows ≤ count)
IsFull count part NoMemory = Unit {0}
