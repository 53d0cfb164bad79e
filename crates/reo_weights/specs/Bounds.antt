-- Bounds on how many items can stand at joints, and so on widths and weights.
use Rattle.std.specs.Prelude.{ℕ, zero, suc, ◌+◌, ◌≤◌, ◌≡◌, Bool, List, None, Contains, length, map}
use Rattle.reo_values.specs.declared.value.Value.{Value}
use Rattle.reo_net_base.specs.Net.{Net, behaviour_at}
use Rattle.reo_net_base.specs.Wired.{IsWired, IsOrder}
use Rattle.reo_net_laws.specs.Ends.{from_in}
use Rattle.reo_net_laws.specs.Parts.{IsClosed}
use Rattle.reo_net_laws.specs.Knots.{IsLoop, AreThose}
use Rattle.reo_joint_values.specs.Standing.{giver_of, FlowsAt, Brings, CanStand}
use Rattle.reo_joint_values.specs.Many.{IsJointIn}
use Rattle.reo_weights.specs.Weights.{IsWeight, product_of, capped}
use Rattle.reo_weights.specs.Over.{IsWithin}

-- Of so many items at most something holds.
pub record HasAtMost (holds : Value → Type 0) (n : ℕ) : Type 0 where
  pub items : List Value
  pub few : length items ≤ n
  pub all : (item : Value) → holds item → Contains items item

-- The sum of the first so many numbers.
abbrev pub sum_below : ℕ → (ℕ → ℕ) → ℕ
sum_below zero f = 0
sum_below (suc n) f = sum_below n f + f n

-- How many rows the side has that gives at a joint.
abbrev pub giver_rows : Net → ℕ → ℕ
giver_rows net j = (behaviour_at net.primitives (giver_of net j).primitive).rows
    ((behaviour_at net.primitives (giver_of net j).primitive).side_of (giver_of net j).end)

-- Bounds for the joints of a set, by shares for the rows that give there: one for a row that gives by the state alone,
-- and the bound of the joint that decides for another.
pub record AreBounds (net : Net) (inside : ℕ → Bool) (bound : ℕ → ℕ) : Type 0 where
  pub share : ℕ → ℕ → ℕ
  pub together : (j : ℕ) → IsJointIn net inside j → sum_below (giver_rows net j) (share j) ≤ bound j
  pub alone : (j row : ℕ) → IsJointIn net inside j → FlowsAt net (giver_of net j) row
      → from_in net row (giver_of net j) ≡ None → 1 ≤ share j row
  pub passed : (j row k : ℕ) → IsJointIn net inside j → Brings net (giver_of net j) row k
      → bound k ≤ share j row

-- At each joint of a closed set no more items can stand than the bound says.
abbrev pub FewItemsStand : Type 0
FewItemsStand = (net : Net) → IsWired net → (order : List ℕ) → IsOrder net order
    → (inside : ℕ → Bool) → IsClosed net inside → (bound : ℕ → ℕ) → AreBounds net inside bound
    → (j : ℕ) → IsJointIn net inside j → HasAtMost (CanStand net j) (bound j)

-- The loop joints of a set.
abbrev pub AreLoopsIn : Net → (ℕ → Bool) → List ℕ → Type 0
AreLoopsIn net inside loops = AreThose (λ j. IsJointIn net inside j × IsLoop net j) loops

-- The greatest product that the bounds of loop joints allow: each joint has the four values without flow too.
abbrev pub most_choices : (ℕ → ℕ) → List ℕ → ℕ
most_choices bound loops = capped (product_of (map (λ j. bound j + 4) loops))

-- A closed set weighs no more than the bounds of its loop joints allow.
abbrev pub WeightIsAtMost : Type 0
WeightIsAtMost = (net : Net) → IsWired net → (order : List ℕ) → IsOrder net order
    → (inside : ℕ → Bool) → IsClosed net inside → (bound : ℕ → ℕ) → AreBounds net inside bound
    → (loops : List ℕ) → AreLoopsIn net inside loops
    → (weight : ℕ) → IsWeight net inside weight → weight ≤ most_choices bound loops

-- A closed set is within a budget in which its bounds are.
abbrev pub BoundedPartsAreWithin : Type 0
BoundedPartsAreWithin = (net : Net) → IsWired net → (order : List ℕ) → IsOrder net order
    → (inside : ℕ → Bool) → IsClosed net inside → (bound : ℕ → ℕ) → AreBounds net inside bound
    → ((j : ℕ) → IsJointIn net inside j → bound j ≤ 256)
    → (loops : List ℕ) → AreLoopsIn net inside loops
    → (budget : ℕ) → most_choices bound loops ≤ budget → IsWithin budget net inside
