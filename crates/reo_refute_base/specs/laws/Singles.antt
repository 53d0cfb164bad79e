-- A branch, or one supported value at each joint.
use Rattle.std.specs.Prelude.{ℕ, ◌<◌, ◌≡◌, ◌⊎◌, true, List, Contains, length}
use Rattle.reo_net_base.specs.Net.{Net}
use Rattle.reo_joint_values.specs.declared.value.JointValue.{JointValue}
use Rattle.reo_joint_values.specs.Values.{Family, AtSide}
use Rattle.reo_refute_base.specs.declared.line.LogLine.{LogLine}
use Rattle.reo_net_base.specs.Sides.{AreRowsOf}
use Rattle.reo_net_base.specs.Wired.{IsWired, IsOrder}
use Rattle.reo_refute_base.specs.Items.{Lists, numbered, AreItemLists}
use Rattle.reo_refute_base.specs.Live.{all_live, live_at, HasSupport}
use Rattle.reo_refute_base.specs.Logs.{IsBranch, IsRightLog}
use Rattle.reo_refute_base.specs.Places.{IsAllowed, IsLive, NoneBefore}

-- Each value of one family is in another.
abbrev pub IsPartOf : Family → Family → Type 0
IsPartOf now live = (j : ℕ) (v : JointValue) → now j v ≡ true → live j v ≡ true

-- Values within what is live, one at each joint, and each with support at both its sides.
pub record IsSingle (net : Net) (lists : Lists) (allowed : ℕ → ℕ → Type 0) (live : Family)
    : Type 0 where
  pub now : Family
  pub within : IsPartOf now live
  pub one : (j : ℕ) → j < length net.joints → (v : JointValue) × Contains (live_at lists now j) v
      × ((w : JointValue) → Contains (live_at lists now j) w → w ≡ v)
  pub supported : (j : ℕ) (v : JointValue) (side : ℕ) → j < length net.joints
      → Contains (live_at lists now j) v → AtSide net j side
      → HasSupport net (numbered lists) allowed now side j v

-- It can be told which places are live.
abbrev pub LivePlacesAreTold : Type 0
LivePlacesAreTold = (net : Net) (turn : ℕ) (given : List ℕ) (p : ℕ)
    → IsLive net turn given p ⊎ (IsLive net turn given p → ⊥)

-- It can be told which values have support, whatever is live.
abbrev pub SupportIsTold : Type 0
SupportIsTold = (net : Net) → IsWired net → (turn : ℕ) (given : List ℕ) (lists : Lists) (p : ℕ)
    → (live : Family) → IsPartOf live (all_live lists)
    → (side j : ℕ) (v : JointValue) → j < length net.joints → AtSide net j side
    → HasSupport net (numbered lists) (IsAllowed net turn given p) live side j v
    ⊎ (HasSupport net (numbered lists) (IsAllowed net turn given p) live side j v → ⊥)

-- Whatever is live, there is a branch, or one supported value at each joint.
abbrev pub BranchOrSingle : Type 0
BranchOrSingle = (net : Net) → IsWired net → (turn : ℕ) (given : List ℕ) (lists : Lists) (p : ℕ)
    → (live : Family) → IsPartOf live (all_live lists)
    → ((lines : List LogLine) × IsBranch net lists (IsAllowed net turn given p) live lines)
    ⊎ IsSingle net lists (IsAllowed net turn given p) live

-- Where no colouring stands before rows, there is a right log for them.
abbrev pub LogsExist : Type 0
LogsExist = (net : Net) → IsWired net → (order : List ℕ) → IsOrder net order
    → (turn : ℕ) (given : List ℕ) → AreRowsOf net given → NoneBefore net turn given
    → (lists : Lists) → AreItemLists net lists
    → (log : List LogLine) × IsRightLog net turn given log
