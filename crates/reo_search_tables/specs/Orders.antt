-- The joints of parts, in order.
use Rattle.std.specs.Prelude.{ℕ, ◌<◌, ◌≡◌, ◌↔◌, Bool, List, [], Contains, length, slice_index_or}
use Rattle.reo_net_base.specs.Net.{Net}
use Rattle.reo_net_base.specs.Wired.{IsOrder}
use Rattle.reo_net_laws.specs.Knots.{Knotted, in_knot, knot_count}
use Rattle.reo_joint_values.specs.InOrder.{AreInOrder, joints_in}
use Rattle.reo_joint_values.specs.Many.{IsJointIn}

-- The joints of a set, each once, so that they can be gone through.
pub record AreJointsOf (net : Net) (inside : ℕ → Bool) (joints : List ℕ) : Type 0 where
  pub in_order : AreInOrder net joints
  pub exact : (j : ℕ) → Contains joints j ↔ IsJointIn net inside j

-- For each part its joints, as they stand in an order of all joints.
pub record AreOrders (net : Net) (knots : Knotted) (orders : List (List ℕ)) : Type 0 where
  pub all : List ℕ
  pub is_order : IsOrder net all
  pub one_each : length orders ≡ knot_count knots
  pub each : (k : ℕ) → k < knot_count knots
      → slice_index_or orders k [] ≡ joints_in net (in_knot knots.numbers k) all
