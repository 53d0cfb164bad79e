-- Components and the ports of a circuit.
use Rattle.std.specs.Prelude.{ℕ, ◌≡◌, ◌<◌, Bool, false, is_none, Some, None, List, length, map, slice_get, option_and_then}
use Rattle.std.specs.Option.{option_map_or}
use Rattle.reo_net_base.specs.declared.colouring.Move.{Move}
use Rattle.reo_net_base.specs.declared.port.Offer.{Offer}
use Rattle.reo_net_base.specs.declared.port.Port.{Port}
use Rattle.reo_net_base.specs.PortState.{PortState}
use Rattle.reo_players.specs.Players.{Player, player_of, present, port_of, after}
use Rattle.reo_players.specs.Offers.{offer_at}
use Rattle.reo_players.specs.Idle.{is_awake}
use Rattle.reo_runs.specs.run_premises.Fitting.{FitPorts}
use Rattle.reo_runs.specs.run_premises.PortsOf.{HasPorts}
use Rattle.reo_runs.specs.at_ports.Pending.{pending_at, held_at, ArePending, ArePendingOrGone}

-- The ports are these, and what the components have left to do fits them.
pub record AreAtPorts (ports : List Port) (count : ℕ) (players : List Player) (states : List PortState) : Type 0 where
  pub count_is : count ≡ length ports
  pub ports_are : HasPorts states ports
  pub fit : FitPorts ports (map (λ (p : Player). p.rest) players)

-- Between two rounds: pending are the offers that a round has seen.
pub record AreBetween (ports : List Port) (count : ℕ) (players : List Player) (states : List PortState) : Type 0 where
  pub at_ports : AreAtPorts ports count players states
  pub pending : ArePending (λ i port. held_at port (player_of players i)) (length players) (length ports) states

-- At the start of a round: pending are the offers of all components.
pub record AreStarted (ports : List Port) (count : ℕ) (players : List Player) (states : List PortState) : Type 0 where
  pub at_ports : AreAtPorts ports count players states
  pub pending : ArePending (λ i port. offer_at port (player_of players i)) (length players) (length ports) states

-- After a round, before the components go on: of the offers of all components some are gone.
pub record AreStepped (ports : List Port) (count : ℕ) (players : List Player) (states : List PortState) : Type 0 where
  pub at_ports : AreAtPorts ports count players states
  pub pending : ArePendingOrGone (λ i port. offer_at port (player_of players i)) (length players) (length ports) states

-- Whether a component's offer is gone.
abbrev pub is_gone : List PortState → Player → Bool
is_gone states p = option_map_or (λ port. is_none (pending_at states port)) (option_and_then port_of (present p)) false

-- The components after the round.
abbrev pub gone_on : List PortState → List Player → List Player
gone_on states players = map (λ (p : Player). after (is_gone states p) p) players

-- The moves of the round are at the ports whose offers are gone: at none of them is an offer, and each port whose offer is gone has one.
pub record AreMoved (moves : List Move) (players : List Player) (states : List PortState) : Type 0 where
  pub gone : (k : ℕ) (m : Move) → slice_get moves k ≡ Some m → pending_at states m.port ≡ None
  pub each : (port i : ℕ) (o : Offer) → i < length players → offer_at port (player_of players i) ≡ Some o → pending_at states port ≡ None
      → (k : ℕ) × (m : Move) × (slice_get moves k ≡ Some m) × (m.port ≡ port)

-- No component that is idle or waits has an offer that is gone.
abbrev pub NoneAsleepIsGone : List Player → List PortState → Type 0
NoneAsleepIsGone players states = (i : ℕ) → i < length players → is_awake (player_of players i) ≡ false → is_gone states (player_of players i) ≡ false
