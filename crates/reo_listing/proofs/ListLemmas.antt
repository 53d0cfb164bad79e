-- What is listed of a circuit.
use Rattle.std.proofs.Common.{◌≡◌, ℕ, List, map, sym, subst}
use Rattle.std.specs.Prelude.{Result, Ok, Err}
use Rattle.reo_net_base.specs.Net.{Net, Wiring, net_of}
use Rattle.reo_net_base.specs.Wired.{IsWired, ArePorts}
use Rattle.reo_net_base.specs.Sides.{side_count}
use Rattle.reo_net_laws.specs.Parts.{SameKnot}
use Rattle.reo_net_laws.specs.Knots.{AreNumbers, Knotted, AreKnots, knot_count}
use Rattle.reo_kinds.specs.declared.kind.Kind.{Kind}
use Rattle.reo_kinds.specs.Kinds.{behaviour_of}
use Rattle.reo_open.specs.declared.opens.Open.{Open}
use Rattle.reo_open.specs.Opens.{open_behaviour}
use Rattle.reo_open.specs.Opened.{open_wiring, open_net, HasNoFilter}
use Rattle.reo_weights.specs.Laws.{NumbersAreOne}
use Rattle.reo_listing.specs.declared.base.table.BoundaryTable.{BoundaryTable}
use Rattle.reo_listing.specs.declared.base.fault.ListFault.{ListFault}
use Rattle.reo_listing.specs.declared.base.fault.ListFault.TheVariants as faults
use Rattle.reo_listing.specs.base.Listed.{ListsParts, ListsOpen, Lists}
use Rattle.reo_listing.specs.base.Laws.{OpenPartsAreNarrow}
use Rattle.reo_listing.specs.gates.OpenPorts.{OpenPortsAreGates}
use Rattle.reo_listing.specs.Listable.{IsListable}

-- What is listed by one numbering of the parts is listed by each.
by_each : NumbersAreOne → (net : Net) (ports budget : ℕ) (numbers : List ℕ) (count : ℕ) → AreNumbers (SameKnot net) (side_count net) numbers count
    → (result : Result (List BoundaryTable) ListFault) → ListsParts net ports budget numbers count result → ListsOpen net ports budget result
by_each one net ports budget numbers count are result lists others n others_are =
    let same = one net numbers others count n are others_are in
    subst (λ (ns : List ℕ). ListsParts net ports budget ns n result) same.0 (subst (λ k. ListsParts net ports budget numbers k result) same.1 lists)

lists_by_parts : NumbersAreOne → (w : Wiring Kind) (budget : ℕ) → HasNoFilter w.primitives → (numbers : List ℕ) (count : ℕ)
    → AreNumbers (SameKnot (open_net w)) (side_count (open_net w)) numbers count → (result : Result (List BoundaryTable) ListFault)
    → ListsParts (open_net w) w.ports budget numbers count result → Lists w budget result
lists_by_parts one w budget none numbers count are (Ok tables) lists = (none, by_each one (open_net w) w.ports budget numbers count are (Ok tables) lists)
lists_by_parts one w budget none numbers count are (Err (faults.Filter i)) lists = absurd lists
lists_by_parts one w budget none numbers count are (Err (faults.Spent k weight)) lists = (none, by_each one (open_net w) w.ports budget numbers count are (Err (faults.Spent k weight)) lists)
lists_by_parts one w budget none numbers count are (Err (faults.Rows k)) lists = (none, by_each one (open_net w) w.ports budget numbers count are (Err (faults.Rows k)) lists)
lists_by_parts one w budget none numbers count are (Err faults.NoMemory) lists = lists

-- The open circuit of a circuit.
module _ (w : Wiring Kind) (o : Wiring Open) (is : o ≡ open_wiring w) (knots : Knotted) (are : AreKnots (net_of open_behaviour o) knots) where
  are_open_knots : AreKnots (open_net w) knots
  are_open_knots = subst (λ (x : Wiring Open). AreKnots (net_of open_behaviour x) knots) is are

  pub listable : OpenPartsAreNarrow → OpenPortsAreGates → IsWired (net_of behaviour_of w) → ArePorts (map behaviour_of w.primitives) w.ports → IsListable o knots
  listable narrow gates wired ports =
      subst (λ (x : Wiring Open). IsListable x knots) (sym is) (record { are_knots = are_open_knots; narrow = λ inside. narrow w wired inside; gates = λ inside. gates w ports inside })

  pub listed : NumbersAreOne → (budget : ℕ) → HasNoFilter w.primitives → (result : Result (List BoundaryTable) ListFault)
      → ListsParts (net_of open_behaviour o) o.ports budget knots.numbers (knot_count knots) result → Lists w budget result
  listed one budget none result lists =
      lists_by_parts one w budget none knots.numbers (knot_count knots) are_open_knots.numbered result
      (subst (λ (x : Wiring Open). ListsParts (net_of open_behaviour x) x.ports budget knots.numbers (knot_count knots) result) is lists)
