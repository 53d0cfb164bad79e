-- A port in its present state.
use Rattle.std.specs.Prelude.{◌≡◌, Bool, true, false, Option, Some, None, List, slice_index_or, ℕ}
use Rattle.reo_values.specs.declared.value.Value.{Value}
use Rattle.reo_net_base.specs.declared.port.Way.{Way}
use Rattle.reo_net_base.specs.declared.port.Way.TheVariants.{In, Out}
use Rattle.reo_net_base.specs.declared.port.Offer.{Offer}
use Rattle.reo_net_base.specs.declared.port.Offer.TheVariants.{Write, Take}

-- A primitive as a port: its way, what may be written there, and the pending offer.
pub record PortState : Type 0 where
  pub way : Option Way
  pub accepts : Value → Bool
  pub pending : Option Offer

-- What is no port.
abbrev pub no_port_state : PortState
no_port_state = record { way = None; accepts = λ _. false; pending = None }

abbrev pub port_state_at : List PortState → ℕ → PortState
port_state_at states i = slice_index_or states i no_port_state

-- The way that a port of this offer has.
abbrev pub way_of : Offer → Way
way_of (Write item) = In
way_of Take = Out

-- The port takes the item of the offer.
abbrev pub IsAccepted : PortState → Offer → Type 0
IsAccepted port_state (Write item) = port_state.accepts item ≡ true
IsAccepted port_state Take = Unit {0}

-- An offer may be placed: the port has its way, nothing is pending, and a written item fits.
pub record CanPlace (port_state : PortState) (offer : Offer) : Type 0 where
  pub way : port_state.way ≡ Some (way_of offer)
  pub free : port_state.pending ≡ None
  pub accepted : IsAccepted port_state offer

-- The same port with this pending.
pub record IsPortWith (old new : PortState) (pending : Option Offer) : Type 0 where
  pub way : new.way ≡ old.way
  pub accepts : (item : Value) → new.accepts item ≡ old.accepts item
  pub pending_is : new.pending ≡ pending
