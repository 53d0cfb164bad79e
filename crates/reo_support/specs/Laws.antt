-- Forest support.
use Rattle.std.specs.Prelude.{ℕ, ◌<◌, ◌≡◌, Bool, true, length}
use Rattle.reo_net_base.specs.Net.{Net}
use Rattle.reo_net_base.specs.Wired.{IsWired}
use Rattle.reo_net_laws.specs.Parts.{IsKnot}
use Rattle.reo_joint_values.specs.declared.value.JointValue.{JointValue}
use Rattle.reo_joint_values.specs.Values.{Names, Choice, Family, AtSide}
use Rattle.reo_joint_values.specs.Supported.{IsSupported}
use Rattle.reo_joint_values.specs.Chosen.{IsChosen}
use Rattle.reo_support.specs.Sets.{OneAtLoops, AreFull}
use Rattle.reo_joint_values.specs.Works.{RowWorks}

-- An assignment with this row at this side.
pub record HasRow (net : Net) (names : Names) (inside : ℕ → Bool) (sets : Family) (side row : ℕ)
    : Type 0 where
  pub rows : ℕ → ℕ
  pub choice : Choice
  pub chosen : IsChosen net names inside sets rows choice
  pub row_is : rows side ≡ row

-- An assignment with this value at this joint.
pub record HasValue (net : Net) (names : Names) (inside : ℕ → Bool) (sets : Family) (j : ℕ)
    (v : JointValue) : Type 0 where
  pub rows : ℕ → ℕ
  pub choice : Choice
  pub chosen : IsChosen net names inside sets rows choice
  pub value_is : choice j ≡ v

-- On a knot with one value at each loop joint, each row that works with values of a supported
-- family stands in an assignment.
abbrev pub RowsStand : Type 0
RowsStand = (net : Net) → IsWired net → (names : Names) (inside : ℕ → Bool) (sets : Family)
    → IsKnot net inside → IsSupported net names inside sets → OneAtLoops net inside sets
    → (side row : ℕ) → inside side ≡ true → RowWorks net names sets side row
    → HasRow net names inside sets side row

-- And so does each value of the family.
abbrev pub ValuesStand : Type 0
ValuesStand = (net : Net) → IsWired net → (names : Names) (inside : ℕ → Bool) (sets : Family)
    → IsKnot net inside → IsSupported net names inside sets → OneAtLoops net inside sets
    → (j side : ℕ) (v : JointValue) → j < length net.joints → AtSide net j side
    → inside side ≡ true → sets j v ≡ true → HasValue net names inside sets j v

-- And a supported family with some value at each joint has an assignment.
abbrev pub FullSetsStand : Type 0
FullSetsStand = (net : Net) → IsWired net → (names : Names) (inside : ℕ → Bool) (sets : Family)
    → IsKnot net inside → IsSupported net names inside sets → OneAtLoops net inside sets
    → AreFull net inside sets
    → (rows : ℕ → ℕ) × (choice : Choice) × IsChosen net names inside sets rows choice
