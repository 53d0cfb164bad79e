-- The line that is next in a branch.
use Rattle.std.specs.Prelude.{ℕ, ◌<◌, ◌≡◌, ◌≢◌, [], Contains, Option, Some, None, length}
use Rattle.reo_net_base.specs.Net.{Net}
use Rattle.reo_joint_values.specs.declared.value.JointValue.{JointValue}
use Rattle.reo_joint_values.specs.Values.{Family, AtSide}
use Rattle.reo_refute_base.specs.declared.line.LogLine.{LogLine}
use Rattle.reo_refute_base.specs.declared.line.LogLine.TheVariants.{At, Drop, Empty, Split}
use Rattle.reo_refute_base.specs.Items.{Lists, numbered}
use Rattle.reo_refute_base.specs.Live.{live_at, HasSupport}
use Rattle.reo_refute_base.specs.Logs.{MayGo, IsEmpty}
use Rattle.reo_refute_base.specs.measure.Owed.{AreTwo}

-- One value is live at a joint.
abbrev pub HasOne : Lists → Family → ℕ → Type 0
HasOne lists live j = (v : JointValue) × Contains (live_at lists live j) v
    × ((w : JointValue) → Contains (live_at lists live j) w → w ≡ v)

-- The values that are live at a joint have support at a side.
abbrev pub AreSupported : Net → Lists → (ℕ → ℕ → Type 0) → Family → ℕ → ℕ → Type 0
AreSupported net lists allowed live j side = (v : JointValue) → Contains (live_at lists live j) v
    → HasSupport net (numbered lists) allowed live side j v

-- Some value is live at a joint, and none may go.
pub record IsKept (net : Net) (lists : Lists) (allowed : ℕ → ℕ → Type 0) (live : Family) (j : ℕ)
    : Type 0 where
  pub some : live_at lists live j ≢ []
  pub supported : (side : ℕ) → AtSide net j side → AreSupported net lists allowed live j side

-- At each joint one value is live, and none may go.
pub record IsSettled (net : Net) (lists : Lists) (allowed : ℕ → ℕ → Type 0) (live : Family)
    : Type 0 where
  pub kept : (j : ℕ) → j < length net.joints → IsKept net lists allowed live j
  pub one : (j : ℕ) → j < length net.joints → HasOne lists live j

-- A line that leads on: a value that may go, an empty joint, or a joint where two values are live.
abbrev pub LeadsOn : Net → Lists → (ℕ → ℕ → Type 0) → Family → LogLine → Type 0
LeadsOn net lists allowed live (At p) = ⊥
LeadsOn net lists allowed live (Drop j v side) =
    MayGo net lists allowed live j v side × Contains (live_at lists live j) v
LeadsOn net lists allowed live (Empty j) = IsEmpty net lists live j
LeadsOn net lists allowed live (Split j) = (j < length net.joints) × AreTwo lists live j

-- The next line, or no line, where one supported value is live at each joint.
abbrev pub IsNextLine : Net → Lists → (ℕ → ℕ → Type 0) → Family → Option LogLine → Type 0
IsNextLine net lists allowed live None = IsSettled net lists allowed live
IsNextLine net lists allowed live (Some line) = LeadsOn net lists allowed live line

-- A line that leads on, or none.
abbrev pub MayLead : Net → Lists → (ℕ → ℕ → Type 0) → Family → Option LogLine → Type 0
MayLead net lists allowed live None = Unit {0}
MayLead net lists allowed live (Some line) = LeadsOn net lists allowed live line
