-- Offers that are taken or declined.
use Rattle.std.specs.Prelude.{ℕ, ◌<◌, ◌≤◌, ◌≡◌, ◌≢◌, Some, None, IsSome, List}
use Rattle.reo_net_base.specs.declared.port.Offer.{Offer}
use Rattle.reo_net_base.specs.PortState.{PortState, port_state_at, way_of, IsAccepted, CanPlace}
use Rattle.reo_rounds.specs.declared.offer.OfferFault.{OfferFault}
use Rattle.reo_rounds.specs.declared.offer.OfferFault.TheVariants as faults

-- Why a port declines an offer: the first of these that holds.
abbrev pub IsPortFault : PortState → Offer → OfferFault → Type 0
IsPortFault state offer faults.NoPort = ⊥
IsPortFault state offer faults.WrongWay = state.way ≢ Some (way_of offer)
IsPortFault state offer faults.Pending = (state.way ≡ Some (way_of offer)) × IsSome state.pending
IsPortFault state offer faults.ItemOutside = (state.way ≡ Some (way_of offer)) × (state.pending ≡ None) × (IsAccepted state offer → ⊥)

-- Why an offer at the port of a number is declined, where so many of these are ports.
abbrev pub IsOfferFault : List PortState → ℕ → ℕ → Offer → OfferFault → Type 0
IsOfferFault states ports port offer faults.NoPort = ports ≤ port
IsOfferFault states ports port offer fault = (port < ports) × IsPortFault (port_state_at states port) offer fault

-- The offer is taken.
pub record IsTakenAt (states : List PortState) (ports port : ℕ) (offer : Offer) : Type 0 where
  pub in_range : port < ports
  pub can_place : CanPlace (port_state_at states port) offer

-- An offer is pending at the port of a number.
abbrev pub IsPendingAt : List PortState → ℕ → ℕ → Type 0
IsPendingAt states ports port = (port < ports) × IsSome (port_state_at states port).pending

-- Exactly the first so many have a way.
pub record AreJustPorts (states : List PortState) (ports : ℕ) : Type 0 where
  pub first : (i : ℕ) → i < ports → IsSome (port_state_at states i).way
  pub others : (i : ℕ) → ports ≤ i → (port_state_at states i).way ≡ None
