-- A connector that is held, as contracts see it.
use Rattle.std.specs.Prelude.{ℕ, List, map}
use Rattle.reo_kinds.specs.Kinds.{behaviour_of, port_state_of}
use Rattle.reo_kinds.specs.declared.kind.Kind.{Kind}
use Rattle.reo_net_base.specs.Net.{Net, Wiring, net_of}
use Rattle.reo_net_base.specs.PortState.{PortState}
use Rattle.reo_net_base.specs.declared.port.Port.{Port}

-- Its circuit with what is offered, its ports, and how many rounds were made.
pub record Held : Type 0 where
  pub circuit : Wiring Kind
  pub ports : List Port
  pub rounds : ℕ

-- Its primitives as ports, in their present states.
abbrev pub states_of : Held → List PortState
states_of c = map port_state_of c.circuit.primitives

-- Its net now.
abbrev pub net_in : Held → Net
net_in c = net_of behaviour_of c.circuit

-- The same but for the states of its primitives.
abbrev pub with_primitives : Held → List Kind → Held
with_primitives c primitives = record c { circuit = record c.circuit { primitives = primitives } }
