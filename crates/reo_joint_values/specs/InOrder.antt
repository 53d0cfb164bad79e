-- Lists of joints in an order in which items can be found.
use Rattle.std.specs.Prelude.{ℕ, ◌<◌, ◌≡◌, ◌≢◌, Bool, List, filter, length, slice_index}
use Rattle.reo_net_base.specs.Net.{Net, side_at}
use Rattle.reo_net_base.specs.Wired.{IsWired, IsOrder}
use Rattle.reo_net_laws.specs.Parts.{IsClosed}
use Rattle.reo_joint_values.specs.Standing.{giver_of, Brings}

-- Joints, none twice, each behind all that bring what some row gives there.
pub record AreInOrder (net : Net) (joints : List ℕ) : Type 0 where
  pub in_range : (m : ℕ) → m < length joints → slice_index joints m < length net.joints
  pub once : (m n : ℕ) → m < n → n < length joints → slice_index joints m ≢ slice_index joints n
  pub brought : (m row k : ℕ) → m < length joints
      → Brings net (giver_of net (slice_index joints m)) row k
      → (n : ℕ) × (n < m) × (slice_index joints n ≡ k)

-- The joints of an order that start in a set of sides.
abbrev pub joints_in : Net → (ℕ → Bool) → List ℕ → List ℕ
joints_in net inside order = filter (λ j. inside (side_at net (giver_of net j))) order

-- The joints of a set out of which no joint leads, as they stand in an order of all joints, can be
-- gone through by themselves.
abbrev pub PartsAreInOrder : Type 0
PartsAreInOrder = (net : Net) → IsWired net → (order : List ℕ) → IsOrder net order
    → (inside : ℕ → Bool) → IsClosed net inside → AreInOrder net (joints_in net inside order)
