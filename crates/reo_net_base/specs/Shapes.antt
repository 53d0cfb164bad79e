-- Circuits of the same shape.
use Rattle.std.specs.Prelude.{ℕ, ◌<◌, ◌≡◌, List, length, map}
use Rattle.reo_values.specs.declared.value.Value.{Value}
use Rattle.reo_net_base.specs.Behaviour.{Behaviour}
use Rattle.reo_net_base.specs.Lawful.{SameShape, TreatsAlike}
use Rattle.reo_net_base.specs.Net.{Wiring, behaviour_at}
use Rattle.reo_net_base.specs.PortState.{PortState, port_state_at}

-- Primitives of the same shape, one for one.
pub record SameShapes (old new : List Behaviour) : Type 0 where
  pub count : length new ≡ length old
  pub same : (i : ℕ) → i < length old → SameShape (behaviour_at old i) (behaviour_at new i)

-- Primitives of which each does the same with items as the one in its place.
abbrev pub TreatAlike : List Behaviour → List Behaviour → Type 0
TreatAlike old new = (i : ℕ) → TreatsAlike (behaviour_at old i) (behaviour_at new i)

-- Two circuits of the same shape: the same joints, as many ports, and primitives of the same shape.
pub record SameNetShape {P : Type 0} (behaviour : P → Behaviour) (old new : Wiring P) : Type 0 where
  pub joints : new.joints ≡ old.joints
  pub ports : new.ports ≡ old.ports
  pub primitives : SameShapes (map behaviour old.primitives) (map behaviour new.primitives)

-- The same ways, and the same items that are accepted.
pub record SameWays (old new : List PortState) : Type 0 where
  pub way : (i : ℕ) → (port_state_at new i).way ≡ (port_state_at old i).way
  pub accepts : (i : ℕ) (item : Value)
      → (port_state_at new i).accepts item ≡ (port_state_at old i).accepts item

-- Two circuits of the same shape whose ports have the same ways.
pub record SamePortedShape {P : Type 0} (behaviour : P → Behaviour) (port_state : P → PortState)
    (old new : Wiring P) : Type 0 where
  pub net : SameNetShape behaviour old new
  pub ways : SameWays (map port_state old.primitives) (map port_state new.primitives)
