-- The values that are live at joints.
use Rattle.std.specs.Prelude.{ℕ, ◌==◌, ◌&&◌, ◌||◌, true, not, List, [], ◌∷◌, ◌++◌, filter, length, map, nat_lt}
use Rattle.std.specs.List.{range_with_len}
use Rattle.reo_net_base.specs.Net.{Net}
use Rattle.reo_joint_values.specs.declared.value.JointValue.{JointValue}
use Rattle.reo_joint_values.specs.declared.value.JointValue.TheVariants.{Flow, RG, GR, GG, Jam}
use Rattle.reo_joint_values.specs.Values.{Names, Family, value_eq}
use Rattle.reo_joint_values.specs.Supported.{IsUsed}
use Rattle.reo_refute_base.specs.Items.{Lists, items_at}

-- The values of a joint, in their order.
abbrev pub values_of : Lists → ℕ → List JointValue
values_of lists j =
    map Flow (range_with_len 0 (length (items_at lists j))) ++ (RG ∷ GR ∷ GG ∷ Jam ∷ [])

-- All values of all joints.
abbrev pub all_live : Lists → Family
all_live lists j (Flow n) = nat_lt n (length (items_at lists j))
all_live lists j RG = true
all_live lists j GR = true
all_live lists j GG = true
all_live lists j Jam = true

-- The values that are live at a joint, in their order.
abbrev pub live_at : Lists → Family → ℕ → List JointValue
live_at lists live j = filter (live j) (values_of lists j)

-- What is live when a value at a joint is live no longer.
abbrev pub without : Family → ℕ → JointValue → Family
without live j v i w = live i w && not ((i == j) && value_eq w v)

-- What is live when of the values at a joint this one alone is live.
abbrev pub alone : Family → ℕ → JointValue → Family
alone live j v i w = live i w && (not (i == j) || value_eq w v)

-- A value at a joint has support at a side: some allowed row of the side fits with it, and with
-- live values at the side's other joints.
pub record HasSupport (net : Net) (names : Names) (allowed : ℕ → ℕ → Type 0) (live : Family)
    (side j : ℕ) (v : JointValue) : Type 0 where
  pub used : IsUsed net names live side j v
  pub allowed_row : allowed side used.row
