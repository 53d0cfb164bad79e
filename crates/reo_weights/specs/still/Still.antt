-- Sets of sides in which nothing flows.
use Rattle.std.specs.Prelude.{ℕ, ◌<◌, ◌≡◌, ◌≢◌, Bool, true, List, Option, None, length, slice_index_or}
use Rattle.reo_values.specs.declared.value.Value.{Value}
use Rattle.reo_net_base.specs.declared.mark.Mark.TheVariants.{F}
use Rattle.reo_net_base.specs.declared.joint.End.{End}
use Rattle.reo_net_base.specs.declared.joint.Joint.{Joint}
use Rattle.reo_net_base.specs.Net.{Net, side_at, mark_at}
use Rattle.reo_net_base.specs.Wired.{IsWired, IsEnd}
use Rattle.reo_net_laws.specs.Parts.{IsClosed, IsAssignment, is_joint_inside}
use Rattle.reo_net_laws.specs.Keys.{IsFirstIn}

-- No end of a side of the set flows.
abbrev pub IsStill : Net → (ℕ → Bool) → List ℕ → Type 0
IsStill net inside rows = (e : End) → IsEnd net.primitives e → inside (side_at net e) ≡ true
    → mark_at net rows e ≢ F

-- No joint of the set has an item.
abbrev pub AreWithoutItems : Net → (ℕ → Bool) → List (Option Value) → Type 0
AreWithoutItems net inside items = (j : ℕ) (d : Joint) → j < length net.joints
    → is_joint_inside net inside (slice_index_or net.joints j d) ≡ true
    → slice_index_or items j None ≡ None

-- The first assignment of a set in which nothing flows is the first in every round.
abbrev pub StillPartsStayFirst : Type 0
StillPartsStayFirst = (net : Net) → IsWired net → (inside : ℕ → Bool)
    → (turn later : ℕ) (rows : List ℕ) (items : List (Option Value))
    → IsFirstIn net inside turn rows items → IsStill net inside rows
    → IsFirstIn net inside later rows items

-- Where nothing flows in a set, no joint of the set has an item.
abbrev pub StillPartsHaveNoItems : Type 0
StillPartsHaveNoItems = (net : Net) → IsWired net → (inside : ℕ → Bool)
    → (rows : List ℕ) (items : List (Option Value)) → IsAssignment net inside rows items
    → IsStill net inside rows → AreWithoutItems net inside items

-- Where no joint of a closed set has an item, nothing flows in the set.
abbrev pub PartsWithoutItemsAreStill : Type 0
PartsWithoutItemsAreStill = (net : Net) → IsWired net → (inside : ℕ → Bool) → IsClosed net inside
    → (rows : List ℕ) (items : List (Option Value)) → IsAssignment net inside rows items
    → AreWithoutItems net inside items → IsStill net inside rows
