-- What a circuit is made from.
use Rattle.std.specs.Prelude.{ℕ, ◌<◌, List, length, slice_index_or}
use Rattle.reo_net_base.specs.declared.joint.Joint.{Joint}
use Rattle.reo_net_base.specs.Net.{Net, Wiring}
use Rattle.reo_net_base.specs.Wired.{IsEnd}

-- Primitives, of which the first so many are ports, and joints.
abbrev pub wiring_of : {P : Type 0} → List P → ℕ → List Joint → Wiring P
wiring_of primitives ports joints =
    record { primitives = primitives; ports = ports; joints = joints }

-- Joints between ends that there are.
pub record AreJoints (net : Net) : Type 0 where
  pub givers : (j : ℕ) (d : Joint) → j < length net.joints
      → IsEnd net.primitives (slice_index_or net.joints j d).giver
  pub takers : (j : ℕ) (d : Joint) → j < length net.joints
      → IsEnd net.primitives (slice_index_or net.joints j d).taker
