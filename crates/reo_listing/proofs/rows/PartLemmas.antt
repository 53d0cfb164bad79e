-- Why a part has no table.
use Rattle.std.proofs.Common.{ℕ, Bool, List}
use Rattle.reo_net_base.specs.Net.{Net}
use Rattle.reo_listing.specs.declared.base.fault.ListFault.{ListFault}
use Rattle.reo_listing.specs.declared.base.fault.ListFault.TheVariants as faults
use Rattle.reo_listing.specs.rows.PartTables.{IsPartFault, IsBeginFault}

-- A part that is not searched has no table.
pub fault_of : (budget : ℕ) (net : Net) (inside : ℕ → Bool) (ports : List ℕ) (part : ℕ) (fault : ListFault) → IsBeginFault budget net inside part fault → IsPartFault budget net inside ports part fault
fault_of budget net inside ports part (faults.Filter i) h = h
fault_of budget net inside ports part (faults.Spent k weight) h = h
fault_of budget net inside ports part (faults.Rows k) h = absurd h
fault_of budget net inside ports part faults.NoMemory h = h
