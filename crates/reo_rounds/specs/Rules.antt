-- What is known of what stands in a circuit.
use Rattle.std.specs.Prelude.{Option}
use Rattle.reo_values.specs.declared.value.Value.{Value}
use Rattle.reo_net_base.specs.declared.colouring.Chosen.{Chosen}
use Rattle.reo_net_base.specs.declared.port.Offer.{Offer}
use Rattle.reo_net_base.specs.Behaviour.{Behaviour}
use Rattle.reo_net_base.specs.PortState.{PortState}

-- How a primitive behaves, what a round makes of it, what it is as a port, and what it is with an offer pending or none.
pub record Rules (P : Type 0) : Type 0 where
  pub behaviour : P → Behaviour
  pub settled : P → Chosen → Option Value → P
  pub port_state : P → PortState
  pub placed : P → Offer → P
  pub withdrawn : P → P

abbrev pub rules_of : {P : Type 0} → (P → Behaviour) → (P → Chosen → Option Value → P) → (P → PortState) → (P → Offer → P) → (P → P) → Rules P
rules_of behaviour settled port_state placed withdrawn = record { behaviour = behaviour; settled = settled; port_state = port_state; placed = placed; withdrawn = withdrawn }
