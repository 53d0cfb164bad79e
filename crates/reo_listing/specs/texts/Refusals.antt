-- The line that says why boundary tables are not listed.
use Rattle.std.specs.Prelude.{ℕ, List, [], ◌++◌, codes}
use Rattle.std.specs.Fmt.{decimal}
use Rattle.reo_listing.specs.declared.base.fault.ListFault.{ListFault}
use Rattle.reo_listing.specs.declared.base.fault.ListFault.TheVariants.{Filter, Spent, Rows, NoMemory}

-- The line of a refusal, for a listing within a budget. Running out of memory is told by no such line.
abbrev pub fault_line : ℕ → ListFault → List ℕ
fault_line budget (Filter primitive) = codes "list refused: filter " ++ decimal primitive ++ codes "\n"
fault_line budget (Rows part) = codes "list refused: rows " ++ decimal part ++ codes "\n"
fault_line budget (Spent part weight) = codes "spent in list: part " ++ decimal part ++ codes " weight " ++ decimal weight ++ codes " budget " ++ decimal budget ++ codes "\n"
fault_line budget NoMemory = []
