-- Bounds on the items of joints that tables tell, whatever the items are.
use Rattle.std.specs.Prelude.{ℕ, ◌<◌, ◌≤◌, ◌≡◌, Bool, List, length}
use Rattle.reo_net_base.specs.declared.mark.Mark.TheVariants.{F}
use Rattle.reo_net_base.specs.Net.{Net, behaviour_at}
use Rattle.reo_net_laws.specs.Ends.{mark_in}
use Rattle.reo_joint_values.specs.Standing.{giver_of, taker_of, FlowsAt}
use Rattle.reo_joint_values.specs.Many.{IsJointIn}
use Rattle.reo_weights.specs.Bounds.{sum_below, giver_rows, AreLoopsIn, most_choices}

-- A row by which a joint flows takes in at the joint k too, at the same side.
pub record ComesIn (net : Net) (j row k : ℕ) : Type 0 where
  pub flows : FlowsAt net (giver_of net j) row
  pub in_range : k < length net.joints
  pub primitive : (taker_of net k).primitive ≡ (giver_of net j).primitive
  pub side : (behaviour_at net.primitives (giver_of net j).primitive).side_of (taker_of net k).end
      ≡ (behaviour_at net.primitives (giver_of net j).primitive).side_of (giver_of net j).end
  pub comes : mark_in net row (taker_of net k) ≡ F

-- A bound at a joint, by shares for the rows of its giver's side: at least one for a row by which the joint flows, and
-- at least the bound of each joint at which the row takes in.
pub record IsBoundAt (net : Net) (bound : ℕ → ℕ) (j : ℕ) : Type 0 where
  pub share : ℕ → ℕ
  pub together : sum_below (giver_rows net j) share ≤ bound j
  pub one : (row : ℕ) → FlowsAt net (giver_of net j) row → 1 ≤ share row
  pub passed : (row k : ℕ) → ComesIn net j row k → bound k ≤ share row
  pub few : bound j ≤ 256

-- Bounds for the joints of a set, and by them so many choices of values at its loop joints at most.
pub record HasBounds (net : Net) (inside : ℕ → Bool) (choices : ℕ) : Type 0 where
  pub bound : ℕ → ℕ
  pub each : (j : ℕ) → IsJointIn net inside j → IsBoundAt net bound j
  pub loops : List ℕ
  pub are_loops : AreLoopsIn net inside loops
  pub product : most_choices bound loops ≤ choices
