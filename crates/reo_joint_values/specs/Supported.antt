-- Values that rows support.
use Rattle.std.specs.Prelude.{ℕ, ◌<◌, ◌≡◌, ◌⊎◌, Bool, true, length}
use Rattle.reo_net_base.specs.Net.{Net}
use Rattle.reo_joint_values.specs.declared.value.JointValue.{JointValue}
use Rattle.reo_joint_values.specs.Values.{Names, Choice, Family, AtSide}
use Rattle.reo_joint_values.specs.Fitting.{Fits, IsFrom}

-- A value at a joint is used at a side: some row there fits it, with values of a family at the
-- other joints.
pub record IsUsed (net : Net) (names : Names) (family : Family) (side j : ℕ) (v : JointValue)
    : Type 0 where
  pub row : ℕ
  pub choice : Choice
  pub fits : Fits net names choice side row
  pub chosen : choice j ≡ v
  pub from : IsFrom net family choice side

-- Each value at the joints of a side is used there.
abbrev pub IsSettledAt : Net → Names → Family → ℕ → Type 0
IsSettledAt net names family side = (j : ℕ) (v : JointValue) → j < length net.joints
    → AtSide net j side → family j v ≡ true → IsUsed net names family side j v

-- Each value is used at each side of its joint that is in a set.
abbrev pub IsSupported : Net → Names → (ℕ → Bool) → Family → Type 0
IsSupported net names inside family = (side : ℕ) → inside side ≡ true
    → IsSettledAt net names family side

-- At the joints of a set of sides one family lies in another.
abbrev pub IsWithin : Net → (ℕ → Bool) → Family → Family → Type 0
IsWithin net inside family sets = (j side : ℕ) (v : JointValue) → j < length net.joints
    → AtSide net j side → inside side ≡ true → family j v ≡ true → sets j v ≡ true

-- A value of the greatest supported family within given sets: of some supported family within them.
pub record IsInGreatest (net : Net) (names : Names) (inside : ℕ → Bool) (sets : Family) (j : ℕ)
    (v : JointValue) : Type 0 where
  pub family : Family
  pub within : IsWithin net inside family sets
  pub supported : IsSupported net names inside family
  pub has : family j v ≡ true

-- Sets out of which no value of a supported family has gone.
pub record IsNarrowed (net : Net) (names : Names) (inside : ℕ → Bool) (old new : Family)
    : Type 0 where
  pub smaller : IsWithin net inside new old
  pub keeps : (family : Family) → IsWithin net inside family old
      → IsSupported net names inside family → IsWithin net inside family new

-- At the joints of a side only what is not used there has gone.
pub record IsThinned (net : Net) (names : Names) (side : ℕ) (old now : Family) : Type 0 where
  pub less : (j : ℕ) (v : JointValue) → now j v ≡ true → old j v ≡ true
  pub gone : (j : ℕ) (v : JointValue) → j < length net.joints → AtSide net j side
      → old j v ≡ true → (now j v ≡ true) ⊎ (IsUsed net names old side j v → ⊥)
