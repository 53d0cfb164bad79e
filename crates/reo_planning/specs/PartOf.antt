-- What is planned, and a part of it.
use Rattle.std.specs.Prelude.{ℕ, ◌<◌, ◌^◌, Bool, List}
use Rattle.reo_net_base.specs.Behaviour.{Behaviour}
use Rattle.reo_net_base.specs.Net.{Net, net_of}
use Rattle.reo_net_circuit.specs.found_ends.Ends.{AreEnds}
use Rattle.reo_net_laws.specs.Knots.{AreKnots, in_knot, knot_count}
use Rattle.reo_weights.specs.declared.exceeds.Exceeds.{Exceeds}
use Rattle.reo_planning.specs.declared.part_of.Planning.{Planning}
use Rattle.reo_planning.specs.declared.part_of.PartOf.{PartOf}
use Rattle.reo_planning.specs.Faults.{IsSearchFault}
use Rattle.reo_planning.specs.Planned.{ArePlanned, IsPartPlanned}

-- The circuit that is planned, as mathematics.
abbrev pub net_in : {P : Type 0} → (P → Behaviour) → Planning P → Net
net_in behaviour planning = net_of behaviour planning.circuit.now

-- The circuit of a part, as mathematics.
abbrev pub net_at : {P : Type 0} → (P → Behaviour) → PartOf P → Net
net_at behaviour part = net_of behaviour part.planning.now.circuit.now

-- Whether a side is in the part.
abbrev pub in_part : {P : Type 0} → PartOf P → ℕ → Bool
in_part part = in_knot part.planning.now.knots.now.numbers part.number

-- It can be planned: the knots and the ends are those of the circuit, and the budget is small.
pub record IsPlanning {P : Type 0} (net : Net) (planning : Planning P) : Type 0 where
  pub knots : AreKnots net planning.knots.now
  pub ends : AreEnds net planning.ends.now
  pub budget : planning.budget < 10 ^ 18

-- The part is one of what can be planned.
pub record IsPartOf {P : Type 0} (net : Net) (part : PartOf P) : Type 0 where
  pub planning : IsPlanning net part.planning.now
  pub number : part.number < knot_count part.planning.now.knots.now

-- All parts are within the budget, and the rows are those of their first assignments in the round.
abbrev pub ArePlannedIn : {P : Type 0} → Net → Planning P → List ℕ → Type 0
ArePlannedIn net planning =
    ArePlanned planning.budget net planning.knots.now planning.turn
    (knot_count planning.knots.now)

-- The part is within the budget and has the rows of its first assignment in the round; the rows of
-- all other sides stay.
abbrev pub IsPlannedAt : {P : Type 0} → Net → PartOf P → List ℕ → List ℕ → Type 0
IsPlannedAt net part =
    IsPartPlanned part.planning.now.budget net part.planning.now.knots.now
    part.planning.now.turn part.number

-- Why the rows of the part are not found.
abbrev pub IsFaultAt : {P : Type 0} → Net → PartOf P → Exceeds → Type 0
IsFaultAt net part =
    IsSearchFault part.planning.now.budget net (in_part part) part.number
