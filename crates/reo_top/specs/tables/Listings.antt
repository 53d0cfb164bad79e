-- What is written of the boundary tables of a circuit.
use Rattle.std.specs.Prelude.{ℕ, ◌≢◌, List, Result, Ok, Err}
use Rattle.reo_net_base.specs.declared.port.Port.{Port}
use Rattle.reo_listing.specs.declared.base.fault.ListFault.{ListFault}
use Rattle.reo_listing.specs.declared.base.fault.ListFault.TheVariants.{Filter, Spent, Rows, NoMemory}
use Rattle.reo_listing.specs.declared.base.table.BoundaryTable.{BoundaryTable}
use Rattle.reo_listing.specs.base.Listed.{Lists}
use Rattle.reo_listing.specs.texts.Refusals.{fault_line}
use Rattle.reo_listing.specs.texts.TablesText.{tables_text}
use Rattle.reo_command.specs.Readings.{FlatCircuit}
use Rattle.reo_command.specs.Statuses.{done, part_over, out_of_memory, tables_refused}
use Rattle.reo_command.specs.top_base.Outputs.{Outputs, IsLine}

-- The tables, or the line that says why they are not listed within a budget.
abbrev pub listing_text : ℕ → List Port → Result (List BoundaryTable) ListFault → List ℕ
listing_text budget ports (Ok tables) = tables_text ports tables
listing_text budget ports (Err fault) = fault_line budget fault

-- Its status.
abbrev pub listing_status : Result (List BoundaryTable) ListFault → ℕ
listing_status (Ok tables) = done
listing_status (Err (Filter primitive)) = tables_refused
listing_status (Err (Spent part weight)) = part_over
listing_status (Err (Rows part)) = tables_refused
listing_status (Err NoMemory) = out_of_memory

-- What listing the tables of a circuit answers, where memory does not run out.
abbrev pub IsListing : ℕ → FlatCircuit → Result (List BoundaryTable) ListFault → Type 0
IsListing budget flat result = (result ≢ Err NoMemory) × Lists flat.wiring budget result

-- The tables of a circuit within a budget, or why they are not listed.
abbrev pub ListsTables : ℕ → FlatCircuit → Outputs
ListsTables budget flat bytes code =
    (result : Result (List BoundaryTable) ListFault) × IsListing budget flat result
    × IsLine (listing_text budget flat.ports result) (listing_status result) bytes code
