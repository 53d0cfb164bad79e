-- Forest support, over the greatest supported family.
use Rattle.std.specs.Prelude.{ℕ, ◌<◌, ◌≡◌, Bool, true, length}
use Rattle.reo_net_base.specs.Net.{Net}
use Rattle.reo_net_base.specs.Wired.{IsWired}
use Rattle.reo_net_laws.specs.Parts.{IsKnot}
use Rattle.reo_joint_values.specs.declared.value.JointValue.{JointValue}
use Rattle.reo_joint_values.specs.Values.{Names, Choice, Family, giver_side, AtSide}
use Rattle.reo_joint_values.specs.Supported.{IsInGreatest}
use Rattle.reo_joint_values.specs.Chosen.{IsChosen}
use Rattle.reo_support.specs.Sets.{OneAtLoops}
use Rattle.reo_support.specs.Laws.{HasValue}

-- The greatest supported family within given sets has some value at each joint of a set of sides.
abbrev pub IsGreatestFull : Net → Names → (ℕ → Bool) → Family → Type 0
IsGreatestFull net names inside sets = (j : ℕ) → j < length net.joints
    → inside (giver_side net j) ≡ true → (v : JointValue) × IsInGreatest net names inside sets j v

-- There is an assignment with values in given sets, and each value of the greatest supported
-- family within them stands in one.
pub record AllStand (net : Net) (names : Names) (inside : ℕ → Bool) (sets : Family) : Type 0 where
  pub some : (rows : ℕ → ℕ) × (choice : Choice) × IsChosen net names inside sets rows choice
  pub each : (j side : ℕ) (v : JointValue) → j < length net.joints → AtSide net j side
      → inside side ≡ true → IsInGreatest net names inside sets j v
      → HasValue net names inside sets j v

-- On a knot with at most one value at each loop joint, where the greatest supported family has
-- some value at each joint, all its values stand.
abbrev pub ForestSupport : Type 0
ForestSupport = (net : Net) → IsWired net → (names : Names) (inside : ℕ → Bool) (sets : Family)
    → IsKnot net inside → OneAtLoops net inside sets → IsGreatestFull net names inside sets
    → AllStand net names inside sets
