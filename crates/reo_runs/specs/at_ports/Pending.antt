-- Which offers are pending at the ports.
use Rattle.std.specs.Prelude.{ℕ, ◌<◌, ◌≡◌, ◌==◌, ◌⊎◌, cond, Option, Some, None, List, map}
use Rattle.reo_net_base.specs.declared.port.Offer.{Offer}
use Rattle.reo_net_base.specs.PortState.{PortState, port_state_at}
use Rattle.reo_net_base.specs.Net.{Wiring}
use Rattle.reo_players.specs.Players.{Player}
use Rattle.reo_players.specs.Offers.{offer_at}
use Rattle.reo_rounds.specs.Rules.{Rules}
use Rattle.reo_rounds.specs.Ready.{ready}

-- What is pending at the port of a number.
abbrev pub pending_at : List PortState → ℕ → Option Offer
pending_at states port = (port_state_at states port).pending

abbrev pub pending_in : {P : Type 0} → Rules P → List P → ℕ → Option Offer
pending_in r primitives port = pending_at (map r.port_state primitives) port

-- What a component has left pending at a port from the rounds before: its offer, if a round has seen it.
abbrev pub held_at : ℕ → Player → Option Offer
held_at port p = cond (p.seen == 0) None (offer_at port p)

-- Pending at each port is what some component has there, by what each of so many has at each port, and nothing where none has anything.
pub record ArePending (has : ℕ → ℕ → Option Offer) (count ports : ℕ) (states : List PortState) : Type 0 where
  pub named : (port i : ℕ) (o : Offer) → port < ports → i < count → has i port ≡ Some o → pending_at states port ≡ Some o
  pub unnamed : (port : ℕ) → port < ports → ((i : ℕ) → i < count → has i port ≡ None) → pending_at states port ≡ None

-- The same, but that what a component has may be gone.
pub record ArePendingOrGone (has : ℕ → ℕ → Option Offer) (count ports : ℕ) (states : List PortState) : Type 0 where
  pub named : (port i : ℕ) (o : Offer) → port < ports → i < count → has i port ≡ Some o → (pending_at states port ≡ None) ⊎ (pending_at states port ≡ Some o)
  pub unnamed : (port : ℕ) → port < ports → ((i : ℕ) → i < count → has i port ≡ None) → pending_at states port ≡ None

-- One circuit is another but for its offers: it is the other with exactly its own offers pending at the ports.
abbrev pub IsButForOffers : {P : Type 0} → Rules P → Wiring P → Wiring P → Type 0
IsButForOffers r old new = new ≡ ready r (pending_in r new.primitives) old
