-- Use of values, and narrowing.
use Rattle.std.specs.Prelude.{ℕ, ◌<◌, ◌≡◌, ◌↔◌, Bool, true, length}
use Rattle.reo_net_base.specs.Net.{Net}
use Rattle.reo_net_base.specs.Wired.{IsWired}
use Rattle.reo_joint_values.specs.declared.value.JointValue.{JointValue}
use Rattle.reo_joint_values.specs.Values.{Names, Family, AtSide}
use Rattle.reo_joint_values.specs.Supported.{IsUsed, IsSupported, IsInGreatest, IsNarrowed, IsThinned}
use Rattle.reo_joint_values.specs.Works.{RowWorks, ValueWorks}

-- A row that works, and with which a value goes.
pub record UsingRow (net : Net) (names : Names) (family : Family) (side j : ℕ) (v : JointValue)
    : Type 0 where
  pub row : ℕ
  pub works : RowWorks net names family side row
  pub goes : ValueWorks net names family side row j v

-- A value of a family is used at a side exactly where some row works with which the value goes.
abbrev pub UseIsByRows : Type 0
UseIsByRows = (net : Net) → IsWired net → (names : Names) (family : Family)
    → (side j : ℕ) (v : JointValue) → j < length net.joints → AtSide net j side
    → family j v ≡ true
    → IsUsed net names family side j v ↔ UsingRow net names family side j v

-- Where at a side only what is not used there goes, the same values are used.
abbrev pub ThinningKeepsUse : Type 0
ThinningKeepsUse = (net : Net) (names : Names) (side : ℕ) (old now : Family)
    → IsThinned net names side old now
    → (j : ℕ) (v : JointValue) → IsUsed net names old side j v ↔ IsUsed net names now side j v

-- A supported family out of which no value of a supported family has gone is the greatest.
abbrev pub NarrowedIsGreatest : Type 0
NarrowedIsGreatest = (net : Net) (names : Names) (inside : ℕ → Bool) (old new : Family)
    → IsNarrowed net names inside old new → IsSupported net names inside new
    → (j side : ℕ) (v : JointValue) → j < length net.joints → AtSide net j side
    → inside side ≡ true → (new j v ≡ true) ↔ IsInGreatest net names inside old j v
