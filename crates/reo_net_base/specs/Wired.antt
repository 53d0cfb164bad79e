-- What holds of every circuit.
use Rattle.std.specs.Prelude.{ℕ, ◌<◌, ◌≤◌, ◌≡◌, ◌≢◌, true, false, List, length, slice_index_or}
pub use Rattle.reo_net_base.specs.order.Arrows.{IsTopological, Walk, OnCycle, IsLeastOnCycle, NoCycle, OrderExists, OrderHasNoCycle}
pub use Rattle.reo_net_base.specs.order.Sorted.{IsSorted}
use Rattle.reo_net_base.specs.declared.joint.End.{End}
use Rattle.reo_net_base.specs.declared.joint.Joint.{Joint}
use Rattle.reo_net_base.specs.Behaviour.{Behaviour}
use Rattle.reo_net_base.specs.Lawful.{IsLawful}
use Rattle.reo_net_base.specs.Net.{Net, behaviour_at, end_of, is_at, side_at, from_sides, to_sides}

-- An end that there is.
abbrev pub IsEnd : List Behaviour → End → Type 0
IsEnd bs e = (e.primitive < length bs) × (e.end < (behaviour_at bs e.primitive).ends)

-- Exactly one joint is at an end.
pub record IsJoined (joints : List Joint) (e : End) : Type 0 where
  pub joint : ℕ
  pub in_range : joint < length joints
  pub here : (d : Joint) → is_at e (slice_index_or joints joint d) ≡ true
  pub only : (j : ℕ) (d : Joint) → j < length joints → is_at e (slice_index_or joints j d) ≡ true → j ≡ joint

-- What holds of every circuit: its primitives keep the laws, its joints go from ends that give to ends that take in,
-- each end is in exactly one joint, and no joint has both ends at one side.
pub record IsWired (net : Net) : Type 0 where
  pub lawful : (i : ℕ) → i < length net.primitives → IsLawful (behaviour_at net.primitives i)
  pub givers : (j : ℕ) (d : Joint) → j < length net.joints → IsEnd net.primitives (slice_index_or net.joints j d).giver
  pub takers : (j : ℕ) (d : Joint) → j < length net.joints → IsEnd net.primitives (slice_index_or net.joints j d).taker
  pub gives : (j : ℕ) (d : Joint) → j < length net.joints → (behaviour_at net.primitives (slice_index_or net.joints j d).giver.primitive).takes_in (slice_index_or net.joints j d).giver.end ≡ false
  pub takes : (j : ℕ) (d : Joint) → j < length net.joints → (behaviour_at net.primitives (slice_index_or net.joints j d).taker.primitive).takes_in (slice_index_or net.joints j d).taker.end ≡ true
  pub each_end : (i end : ℕ) → i < length net.primitives → end < (behaviour_at net.primitives i).ends → IsJoined net.joints (end_of i end)
  pub apart : (j : ℕ) (d : Joint) → j < length net.joints → side_at net (slice_index_or net.joints j d).giver ≢ side_at net (slice_index_or net.joints j d).taker

-- Each joint once, none before those that feed it: a joint feeds another where it goes to the side that the other comes
-- from. Where there is such an order, no directed cycle of sides exists.
abbrev pub IsOrder : Net → List ℕ → Type 0
IsOrder net order = IsTopological (from_sides net) (to_sides net) order

-- A primitive that can be a port: one side with one end.
pub record IsPort (b : Behaviour) : Type 0 where
  pub one_side : b.sides ≡ 1
  pub one_end : b.ends ≡ 1

-- The first so many primitives can be ports.
pub record ArePorts (bs : List Behaviour) (ports : ℕ) : Type 0 where
  pub within : ports ≤ length bs
  pub port : (i : ℕ) → i < ports → IsPort (behaviour_at bs i)
