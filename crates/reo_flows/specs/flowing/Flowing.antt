-- The joints that flow.
use Rattle.std.specs.Prelude.{ℕ, ◌<◌, ◌≡◌, Bool, true, List, [], filter, length, slice_index, slice_index_or}
use Rattle.reo_net_base.specs.Marks.{is_flow}
use Rattle.reo_net_base.specs.Net.{Net, Side, all_sides, mark_at, row_count}
use Rattle.reo_net_base.specs.Sides.{side_count}
use Rattle.reo_net_base.specs.Wired.{IsOrder}
use Rattle.reo_joint_values.specs.Standing.{giver_of}
use Rattle.reo_joint_values.specs.Many.{IsJointIn}
use Rattle.reo_joint_values.specs.InOrder.{joints_in}
use Rattle.reo_net_laws.specs.Knots.{Knotted, in_knot, knot_count}

-- Whether a joint flows by some rows: its giver does.
abbrev pub flows_by : Net → List ℕ → ℕ → Bool
flows_by net rows j = is_flow (mark_at net rows (giver_of net j))

-- Those of some joints that flow, in their order.
abbrev pub flowing_of : Net → List ℕ → List ℕ → List ℕ
flowing_of net rows joints = filter (flows_by net rows) joints

-- A row for each side, those of the sides of a set in their tables.
pub record AreRowsIn (net : Net) (inside : ℕ → Bool) (rows : List ℕ) : Type 0 where
  pub one_row : length rows ≡ side_count net
  pub in_tables : (s : ℕ) (d : Side) → s < side_count net → inside s ≡ true
      → slice_index rows s < row_count (slice_index_or (all_sides net.primitives) s d)

-- Joints that start in a set of sides.
abbrev pub AreJointsIn : Net → (ℕ → Bool) → List ℕ → Type 0
AreJointsIn net inside joints = (m : ℕ) → m < length joints
    → IsJointIn net inside (slice_index joints m)

-- The joints of a set of sides that flow by some rows, as they stand in an order of all joints.
pub record AreFlowingOf (net : Net) (inside : ℕ → Bool) (rows flowing : List ℕ) : Type 0 where
  pub all : List ℕ
  pub is_order : IsOrder net all
  pub those : flowing ≡ flowing_of net rows (joints_in net inside all)

-- For each part that passes a test its joints that flow by some rows.
pub record AreFlowingIn (net : Net) (knots : Knotted) (rows : List ℕ) (test : ℕ → Bool)
    (lists : List (List ℕ)) : Type 0 where
  pub one_each : length lists ≡ knot_count knots
  pub each : (k : ℕ) → k < knot_count knots → test k ≡ true
      → AreFlowingOf net (in_knot knots.numbers k) rows (slice_index_or lists k [])
