-- What the items that can stand at joints are.
use Rattle.std.specs.Prelude.{ℕ, ◌<◌, ◌≡◌, Bool, true, List, Option, Some, None, length, slice_index_or}
use Rattle.reo_values.specs.declared.value.Value.{Value}
use Rattle.reo_net_base.specs.Wired.{NoCycle, IsWired}
use Rattle.reo_net_base.specs.declared.joint.Joint.{Joint}
use Rattle.reo_net_base.specs.Net.{Net, from_sides, to_sides}
use Rattle.reo_net_laws.specs.Parts.{IsClosed, IsAssignment, is_joint_inside}
use Rattle.reo_joint_values.specs.Standing.{giver_of, GivesAlone, GivesFor, CanStand}

-- Sets of items, one for each joint: with the items that rows take, they have those that rows give.
pub record AreClosed (net : Net) (has : ℕ → Value → Type 0) : Type 0 where
  pub alone : (j row : ℕ) (item : Value) → j < length net.joints
      → GivesAlone net (giver_of net j) row item → has j item
  pub passed : (j row k : ℕ) (taken item : Value) → j < length net.joints
      → GivesFor net (giver_of net j) row k taken item → has k taken → has j item

-- The items that can stand at joints are such sets.
abbrev pub PossibleItemsAreClosed : Type 0
PossibleItemsAreClosed = (net : Net) → AreClosed net (CanStand net)

-- They are the least: they lie in any such sets, given by a test.
abbrev pub PossibleItemsAreLeast : Type 0
PossibleItemsAreLeast = (net : Net) (test : ℕ → Value → Bool)
    → AreClosed net (λ j item. test j item ≡ true)
    → (j : ℕ) (item : Value) → CanStand net j item → test j item ≡ true

-- Where no directed cycle of sides exists, each item at a joint of an assignment of a closed set
-- can stand there.
abbrev pub ItemsCanStand : Type 0
ItemsCanStand = (net : Net) → IsWired net → NoCycle (from_sides net) (to_sides net)
    → (inside : ℕ → Bool) → IsClosed net inside
    → (rows : List ℕ) (items : List (Option Value)) → IsAssignment net inside rows items
    → (j : ℕ) (d : Joint) (item : Value) → j < length net.joints
    → is_joint_inside net inside (slice_index_or net.joints j d) ≡ true
    → slice_index_or items j None ≡ Some item → CanStand net j item
