-- Primitives as the ports of a circuit.
use Rattle.std.specs.Prelude.{ℕ, ◌≡◌, ◌≤◌, Some, None, List, length, slice_get}
use Rattle.reo_values.specs.declared.value.Value.{Value}
use Rattle.reo_values.specs.Kind.{is_item}
use Rattle.reo_net_base.specs.declared.port.Port.{Port}
use Rattle.reo_net_base.specs.declared.port.Way.TheVariants.{In}
use Rattle.reo_net_base.specs.PortState.{PortState, port_state_at}

-- The port has its way, and where items go in it accepts exactly the items of its type.
pub record IsPortOf (state : PortState) (port : Port) : Type 0 where
  pub way : state.way ≡ Some port.way
  pub accepts : port.way ≡ In → (item : Value) → state.accepts item ≡ is_item item port.kindred

-- The first primitives are these ports, and no other primitive is a port.
pub record HasPorts (states : List PortState) (ports : List Port) : Type 0 where
  pub each : (i : ℕ) (port : Port) → slice_get ports i ≡ Some port → IsPortOf (port_state_at states i) port
  pub others : (i : ℕ) → length ports ≤ i → (port_state_at states i).way ≡ None

-- No offer is pending anywhere.
abbrev pub AreFree : List PortState → Type 0
AreFree states = (i : ℕ) → (port_state_at states i).pending ≡ None
