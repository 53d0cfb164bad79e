-- What item lists have.
use Rattle.std.specs.Prelude.{ℕ, ◌<◌, ◌↔◌, Contains, length}
use Rattle.reo_values.specs.declared.value.Value.{Value}
use Rattle.reo_net_base.specs.Net.{Net}
use Rattle.reo_net_base.specs.Wired.{IsWired}
use Rattle.reo_joint_values.specs.Standing.{CanStand}
use Rattle.reo_refute_base.specs.Items.{Lists, items_at, AreItemLists}

-- The item lists have exactly the items that can stand at their joints.
abbrev pub ItemsAreListed : Type 0
ItemsAreListed = (net : Net) → IsWired net → (lists : Lists) → AreItemLists net lists
    → (j : ℕ) (item : Value) → j < length net.joints
    → Contains (items_at lists j) item ↔ CanStand net j item
