-- What changes the offers at the ports.
use Rattle.std.specs.Prelude.{ℕ, ◌<◌, ◌≡◌, ◌≢◌, cond, Option, None, List, map}
use Rattle.reo_values.specs.declared.value.Value.{Value}
use Rattle.reo_net_base.specs.declared.colouring.Chosen.{Chosen}
use Rattle.reo_net_base.specs.declared.port.Offer.{Offer}
use Rattle.reo_net_base.specs.Marks.{is_flow}
use Rattle.reo_net_base.specs.Behaviour.{Behaviour}
use Rattle.reo_net_base.specs.Net.{Net, Wiring, net_of, mark_at, end_of}
use Rattle.reo_net_base.specs.PortState.{PortState, port_state_at, IsPortWith}
use Rattle.reo_net_base.specs.Shapes.{SameWays, SamePortedShape}
use Rattle.reo_net_base.specs.Step.{stepped}

-- What a round by these rows leaves of the states of all primitives as ports, of which the first so many are ports.
pub record AreAfterRound (net : Net) (rows : List ℕ) (ports : ℕ) (old new : List PortState)
    : Type 0 where
  -- the offer of a port that flowed is gone, that of another port is as it was
  pub port : (i : ℕ) → i < ports → IsPortWith (port_state_at old i) (port_state_at new i)
      (cond (is_flow (mark_at net rows (end_of i 0))) None (port_state_at old i).pending)
  -- what has no way has no pending offer, before and after
  pub no_port : (i : ℕ) → (port_state_at old i).way ≡ None
      → ((port_state_at old i).pending ≡ None) × ((port_state_at new i).pending ≡ None)
  -- ways and what is accepted stay, at all primitives
  pub ways : SameWays old new

-- What any round of a circuit leaves of its ports.
abbrev pub OffersAfterRound : {P : Type 0} → (P → Behaviour)
    → (P → Chosen → Option Value → P) → (P → PortState) → Wiring P → Type 0
OffersAfterRound behaviour settled port_state w =
    (rows : List ℕ) (items : List (Option Value))
    → AreAfterRound (net_of behaviour w) rows w.ports (map port_state w.primitives)
    (map port_state (stepped behaviour settled w rows items))

-- Any round of a circuit leaves its shape and the ways of its ports.
abbrev pub ShapeAfterRound : {P : Type 0} → (P → Behaviour)
    → (P → Chosen → Option Value → P) → (P → PortState) → Wiring P → Type 0
ShapeAfterRound behaviour settled port_state w =
    (rows : List ℕ) (items : List (Option Value))
    → SamePortedShape behaviour port_state w
    (record w { primitives = stepped behaviour settled w rows items })

-- The same ports, but that one has this pending.
pub record OnlyPort (old new : List PortState) (port : ℕ) (pending : Option Offer) : Type 0 where
  pub here : IsPortWith (port_state_at old port) (port_state_at new port) pending
  pub others : (i : ℕ) → i ≢ port → port_state_at new i ≡ port_state_at old i

-- The same ports, but that one is in this state.
pub record OnlyState (old new : List PortState) (index : ℕ) (state : PortState) : Type 0 where
  pub here : port_state_at new index ≡ state
  pub others : (i : ℕ) → i ≢ index → port_state_at new i ≡ port_state_at old i
