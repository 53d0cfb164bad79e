-- How many values given sets have at the joints of a set of sides.
use Rattle.std.specs.Prelude.{ℕ, ◌<◌, ◌≡◌, Bool, true, length}
use Rattle.reo_net_base.specs.Net.{Net}
use Rattle.reo_joint_values.specs.declared.value.JointValue.{JointValue}
use Rattle.reo_joint_values.specs.Values.{Family, giver_side}
use Rattle.reo_net_laws.specs.Knots.{IsLoop}

-- Each loop joint of a set of sides has at most one value.
abbrev pub OneAtLoops : Net → (ℕ → Bool) → Family → Type 0
OneAtLoops net inside sets = (j : ℕ) (v w : JointValue) → j < length net.joints
    → inside (giver_side net j) ≡ true → IsLoop net j → sets j v ≡ true → sets j w ≡ true → v ≡ w

-- Each joint of a set of sides has some value.
abbrev pub AreFull : Net → (ℕ → Bool) → Family → Type 0
AreFull net inside sets = (j : ℕ) → j < length net.joints → inside (giver_side net j) ≡ true
    → (v : JointValue) × (sets j v ≡ true)
