-- Joints where more than 256 items can stand.
use Rattle.std.specs.Prelude.{ℕ, ◌<◌, ◌≡◌, ◌≢◌, Bool, true, List, Contains, length, slice_index_or}
use Rattle.reo_values.specs.declared.value.Value.{Value}
use Rattle.reo_net_base.specs.Net.{Net, side_at}
use Rattle.reo_joint_values.specs.Standing.{giver_of, CanStand}

-- No item stands twice in a list.
abbrev pub AreDistinct : List Value → Type 0
AreDistinct items = (m n : ℕ) (d : Value) → m < n → n < length items
    → slice_index_or items m d ≢ slice_index_or items n d

-- More than 256 items can stand at a joint.
pub record HasMany (net : Net) (j : ℕ) : Type 0 where
  pub items : List Value
  pub distinct : AreDistinct items
  pub many : 256 < length items
  pub stand : (item : Value) → Contains items item → CanStand net j item

-- A joint that starts in a set of sides.
abbrev pub IsJointIn : Net → (ℕ → Bool) → ℕ → Type 0
IsJointIn net inside j = (j < length net.joints) × (inside (side_at net (giver_of net j)) ≡ true)
