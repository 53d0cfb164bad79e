-- What may be wrong with primitives and joints.
use Rattle.std.specs.Prelude.{ℕ, ◌<◌, ◌≡◌, ◌⊎◌, true, false, length, slice_index_or}
use Rattle.reo_net_base.specs.Wired.{IsLeastOnCycle, NoCycle, IsJoined}
use Rattle.reo_net_base.specs.declared.joint.Joint.{Joint}
use Rattle.reo_net_base.specs.Net.{Net, behaviour_at, end_of, from_sides, to_sides}
use Rattle.reo_net_circuit.specs.declared.fault.NetFault.{NetFault}
use Rattle.reo_net_circuit.specs.declared.fault.NetFault.TheVariants.{Ends, Way, Cycle, NoMemory}

-- Each end of a primitive is in exactly one joint.
abbrev pub IsBound : Net → ℕ → Type 0
IsBound net i = (end : ℕ) → end < (behaviour_at net.primitives i).ends → IsJoined net.joints (end_of i end)

-- Some end of a primitive is not in exactly one joint.
pub record IsLoose (net : Net) (i : ℕ) : Type 0 where
  pub end : ℕ
  pub is_end : end < (behaviour_at net.primitives i).ends
  pub not_joined : IsJoined net.joints (end_of i end) → ⊥

-- The giver gives and the taker takes in.
pub record GoesRight (net : Net) (j : Joint) : Type 0 where
  pub gives : (behaviour_at net.primitives j.giver.primitive).takes_in j.giver.end ≡ false
  pub takes : (behaviour_at net.primitives j.taker.primitive).takes_in j.taker.end ≡ true

-- The giver takes in or the taker does not.
abbrev pub GoesWrong : Net → Joint → Type 0
GoesWrong net j = ((behaviour_at net.primitives j.giver.primitive).takes_in j.giver.end ≡ true) ⊎ ((behaviour_at net.primitives j.taker.primitive).takes_in j.taker.end ≡ false)

-- Each end of each primitive is in exactly one joint.
abbrev pub AllJoined : Net → Type 0
AllJoined net = (i : ℕ) → i < length net.primitives → IsBound net i

-- All joints go from an end that gives to one that takes in.
abbrev pub AllRight : Net → Type 0
AllRight net = (j : ℕ) (d : Joint) → j < length net.joints → GoesRight net (slice_index_or net.joints j d)

-- The least primitive with an end that is not in exactly one joint.
pub record IsEndsFault (net : Net) (i : ℕ) : Type 0 where
  pub in_range : i < length net.primitives
  pub loose : IsLoose net i
  pub before : (k : ℕ) → k < i → IsBound net k

-- The least joint whose giver takes in or whose taker does not.
pub record IsWayFault (net : Net) (j : ℕ) : Type 0 where
  pub in_range : j < length net.joints
  pub wrong : (d : Joint) → GoesWrong net (slice_index_or net.joints j d)
  pub before : (k : ℕ) (d : Joint) → k < j → GoesRight net (slice_index_or net.joints k d)

-- No fault: each end in exactly one joint, each joint the right way, no directed cycle of sides.
pub record HasNoFault (net : Net) : Type 0 where
  pub joined : AllJoined net
  pub right : AllRight net
  pub no_cycle : NoCycle (from_sides net) (to_sides net)

-- The first fault, in the order of the causes. Running out of memory may come at any time.
abbrev pub IsNetFault : Net → NetFault → Type 0
IsNetFault net (Ends i) = IsEndsFault net i
IsNetFault net (Way j) = AllJoined net × IsWayFault net j
IsNetFault net (Cycle j) = AllJoined net × AllRight net × IsLeastOnCycle (from_sides net) (to_sides net) j
IsNetFault net NoMemory = Unit {0}
