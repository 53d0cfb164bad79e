-- What is owed for open branches.
use Rattle.std.specs.Prelude.{ℕ, zero, suc, ◌+◌, ◌^◌, ◌<◌, ◌≤◌, ◌≡◌, false, List, Contains, length}
use Rattle.std.specs.List.{sum_by}
use Rattle.reo_net_base.specs.Net.{Net}
use Rattle.reo_joint_values.specs.declared.value.JointValue.{JointValue}
use Rattle.reo_joint_values.specs.Values.{Family, value_eq}
use Rattle.reo_refute_base.specs.Items.{Lists}
use Rattle.reo_refute_base.specs.Live.{live_at, without}
use Rattle.reo_refute_base.specs.Steps.{branches}

-- How many values are live at the first n joints.
abbrev pub live_count : Lists → Family → ℕ → ℕ
live_count lists live zero = 0
live_count lists live (suc n) = live_count lists live n + length (live_at lists live n)

-- What is owed for a branch: 261 to the power of how many values are live in it.
abbrev pub owed_for : Net → Lists → Family → ℕ
owed_for net lists live = 261 ^ live_count lists live (length net.joints)

-- What is owed for open branches.
abbrev pub owed : Net → Lists → List Family → ℕ
owed net lists open' = sum_by (owed_for net lists) open'

-- When a live value goes, less is owed for its branch.
abbrev pub DropsLessen : Type 0
DropsLessen = (net : Net) (lists : Lists) (live : Family) (j : ℕ) (v : JointValue)
    → j < length net.joints → Contains (live_at lists live j) v
    → owed_for net lists (without live j v) < owed_for net lists live

-- Two values that are live at a joint.
pub record AreTwo (lists : Lists) (live : Family) (j : ℕ) : Type 0 where
  pub first : JointValue
  pub second : JointValue
  pub has_first : Contains (live_at lists live j) first
  pub has_second : Contains (live_at lists live j) second
  pub differ : value_eq second first ≡ false

-- For all branches of a split of a joint at which two values or more are live, and at most 260,
-- less is owed than for the branch that was split.
abbrev pub SplitsLessen : Type 0
SplitsLessen = (net : Net) (lists : Lists) (live : Family) (j : ℕ) → j < length net.joints
    → length (live_at lists live j) ≤ 260 → AreTwo lists live j
    → owed net lists (branches lists live j) < owed_for net lists live
