-- The start of a round in the subject's own words.
use Rattle.std.specs.Prelude.{ℕ, ◌<◌, ◌≤◌, ◌≡◌, Some, length, slice_get, option_map, map}
use Rattle.reo_net_base.specs.declared.port.Offer.{Offer}
use Rattle.reo_net_base.specs.PortState.{port_state_at, way_of, IsAccepted, IsPortWith}
use Rattle.reo_net_base.specs.Net.{Wiring}
use Rattle.reo_players.specs.Offers.{IsOffered, AreApart, offer_for}
use Rattle.reo_rounds.specs.Rules.{Rules}
use Rattle.reo_rounds.specs.Ready.{with_pending, ready}
use Rattle.reo_runs.specs.Round.{State}

-- At each port the offer of the component whose present action names it is pending, and at every other port nothing. A port is
-- the one that it was, with exactly what is pending there now, of the same way and for the same items; nothing else of the
-- circuit differs.
pub record IsStarted {P : Type 0} (r : Rules P) (a : State P) (w : Wiring P) : Type 0 where
  pub offered : (port : ℕ) → port < a.circuit.ports → IsOffered a.players port (port_state_at (map r.port_state w.primitives) port).pending
  pub same : (port : ℕ) → port < a.circuit.ports
      → IsPortWith (port_state_at (map r.port_state a.circuit.primitives) port) (port_state_at (map r.port_state w.primitives) port) (port_state_at (map r.port_state w.primitives) port).pending
  pub but_for_offers : (port : ℕ) → port < a.circuit.ports
      → slice_get w.primitives port ≡ option_map (with_pending r (port_state_at (map r.port_state w.primitives) port).pending) (slice_get a.circuit.primitives port)
  pub joints : w.joints ≡ a.circuit.joints
  pub ports : w.ports ≡ a.circuit.ports
  pub others : (k : ℕ) → a.circuit.ports ≤ k → slice_get w.primitives k ≡ slice_get a.circuit.primitives k

-- Each offer of the components is one that its port takes, once nothing is pending there.
abbrev pub AreTaken : {P : Type 0} → Rules P → State P → Type 0
AreTaken r a = (port : ℕ) (o : Offer) → port < a.circuit.ports → offer_for a.players port ≡ Some o
    → ((port_state_at (map r.port_state a.circuit.primitives) port).way ≡ Some (way_of o)) × IsAccepted (port_state_at (map r.port_state a.circuit.primitives) port) o

-- So the circuit with the offers of the components stands at the start of a round, where no two of them offer at one port.
abbrev pub RoundsStart : {P : Type 0} → Rules P → Type 0
RoundsStart r = (a : State _) → a.circuit.ports ≤ length a.circuit.primitives → AreApart a.players → AreTaken r a → IsStarted r a (ready r (offer_for a.players) a.circuit)
