-- The table of one part among those of all.
use Rattle.std.specs.Prelude.{ℕ, ◌<◌, ◌≡◌, List, Err}
use Rattle.reo_net_base.specs.Net.{Net}
use Rattle.reo_listing.specs.declared.base.table.BoundaryTable.{BoundaryTable}
use Rattle.reo_listing.specs.declared.base.fault.ListFault.{ListFault}
use Rattle.reo_listing.specs.base.Listed.{IsTableOf, ListsParts}

-- The table of this part.
pub record IsPartsTable (net : Net) (ports budget : ℕ) (numbers : List ℕ) (part : ℕ) (t : BoundaryTable) : Type 0 where
  pub part_is : t.part ≡ part
  pub table : IsTableOf net ports budget numbers t

-- What is answered, with this part among the parts.
abbrev pub StopsAt : Net → ℕ → ℕ → List ℕ → ℕ → ListFault → Type 0
StopsAt net ports budget numbers part fault = (count : ℕ) → part < count → ListsParts net ports budget numbers count (Err fault)
