-- The tables of a circuit, as what is owed.
use Rattle.std.proofs.Common.{◌≡◌, ℕ, List, refl, arith}
use Rattle.std.specs.Prelude.{◌≢◌, Result, Ok, Err}
use Rattle.reo_net_base.specs.Net.{net_of}
use Rattle.reo_net_base.specs.Wired.{IsWired}
use Rattle.reo_kinds.specs.Kinds.{behaviour_of}
use Rattle.reo_listing.specs.declared.base.fault.ListFault.{ListFault}
use Rattle.reo_listing.specs.declared.base.fault.ListFault.TheVariants.{Filter, Spent, Rows, NoMemory}
use Rattle.reo_listing.specs.declared.base.table.BoundaryTable.{BoundaryTable}
use Rattle.reo_listing.specs.answers.Laws.{ListingIsOne}
use Rattle.reo_command.specs.declared.command.Command.TheVariants.{Tables}
use Rattle.reo_command.specs.declared.role.Role.TheVariants.{Circuit}
use Rattle.reo_command.specs.Readings.{FlatCircuit, IsCircuitText, CircuitStops, ReadsCircuit, StopsCheck}
use Rattle.reo_command.specs.Statuses.{IsAmong, statuses_of}
use Rattle.reo_command.proofs.FlatLemmas.{circuit_law}
use Rattle.reo_command.proofs.ReadLemmas.{IsOneReading, file_reading}
use Rattle.reo_command.proofs.top_base.ToldLemmas.{told_status, told_not_three}
use Rattle.reo_top.specs.tables.Listings.{listing_text, listing_status, IsListing, ListsTables}

-- There is one answer.
pub only_listing : ListingIsOne → (budget : ℕ) (flat : FlatCircuit) → IsWired (net_of behaviour_of flat.wiring) → (x : Result (List BoundaryTable) ListFault) → IsListing budget flat x
    → (y : Result (List BoundaryTable) ListFault) → IsListing budget flat y → x ≡ y
only_listing one budget flat wired x is y other = one flat.wiring wired budget x y is.0 other.0 is.1 other.1

-- The statuses of listings.
status_in : (x : Result (List BoundaryTable) ListFault) → IsAmong (statuses_of Tables) (listing_status x)
status_in (Ok tables) = refl
status_in (Err (Filter primitive)) = refl
status_in (Err (Spent part weight)) = refl
status_in (Err (Rows part)) = refl
status_in (Err NoMemory) = refl

pub status_not_nine : (x : Result (List BoundaryTable) ListFault) → listing_status x ≢ 9
status_not_nine (Ok tables) e = omega (arith, e)
status_not_nine (Err (Filter primitive)) e = omega (arith, e)
status_not_nine (Err (Spent part weight)) e = omega (arith, e)
status_not_nine (Err (Rows part)) e = omega (arith, e)
status_not_nine (Err NoMemory) e = omega (arith, e)

status_not_three : (x : Result (List BoundaryTable) ListFault) → listing_status x ≢ 3
status_not_three (Ok tables) e = omega (arith, e)
status_not_three (Err (Filter primitive)) e = omega (arith, e)
status_not_three (Err (Spent part weight)) e = omega (arith, e)
status_not_three (Err (Rows part)) e = omega (arith, e)
status_not_three (Err NoMemory) e = omega (arith, e)

module _ (budget : ℕ) (flat : FlatCircuit) where
  pub tables_status : (bytes : List ℕ) (status : ℕ) → ListsTables budget flat bytes status → IsAmong (statuses_of Tables) status
  tables_status bytes status h = told_status (IsListing budget flat) (listing_text budget flat.ports) listing_status (statuses_of Tables) status_in bytes status h

  pub tables_not_three : (bytes : List ℕ) (status : ℕ) → ListsTables budget flat bytes status → status ≢ 3
  tables_not_three bytes status h = told_not_three (IsListing budget flat) (listing_text budget flat.ports) listing_status status_not_three bytes status h

-- The circuit that is read, with these statuses.
pub tables_reading : IsOneReading ReadsCircuit StopsCheck (statuses_of Tables)
tables_reading = file_reading Circuit IsCircuitText CircuitStops circuit_law (statuses_of Tables) refl refl refl
