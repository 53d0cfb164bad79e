-- Rows that support a value.
use Rattle.std.specs.Prelude.{ℕ, ◌<◌, ◌≡◌, ◌↔◌, true, List, length}
use Rattle.reo_net_base.specs.Net.{Net}
use Rattle.reo_net_base.specs.Wired.{IsWired}
use Rattle.reo_joint_values.specs.declared.value.JointValue.{JointValue}
use Rattle.reo_joint_values.specs.Values.{Names, Family, AtSide}
use Rattle.reo_joint_values.specs.Works.{RowWorks}
use Rattle.reo_refute_base.specs.Live.{alone, HasSupport}
use Rattle.reo_refute_base.specs.Places.{IsAllowed}

-- An allowed row of a side that works with what is live when of a joint's values one alone is.
pub record SupportingRow (net : Net) (names : Names) (allowed : ℕ → ℕ → Type 0) (live : Family)
    (side j : ℕ) (v : JointValue) : Type 0 where
  pub row : ℕ
  pub allowed_row : allowed side row
  pub works : RowWorks net names (alone live j v) side row

-- A live value at a joint has support at a side exactly where there is such a row.
abbrev pub SupportIsByRows : Type 0
SupportIsByRows = (net : Net) → IsWired net → (turn : ℕ) (given : List ℕ) (p : ℕ)
    → (names : Names) (live : Family) (side j : ℕ) (v : JointValue)
    → j < length net.joints → AtSide net j side → live j v ≡ true
    → HasSupport net names (IsAllowed net turn given p) live side j v
    ↔ SupportingRow net names (IsAllowed net turn given p) live side j v
