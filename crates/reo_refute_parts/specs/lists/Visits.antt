-- Lists of items while passes go over the joints.
use Rattle.std.specs.Prelude.{ℕ, ◌+◌, ◌<◌, ◌≤◌, ◌≡◌, List, ◌++◌, Contains, length}
use Rattle.std.specs.List.{sum_by}
use Rattle.reo_values.specs.declared.value.Value.{Value}
use Rattle.reo_net_base.specs.Net.{Net}
use Rattle.reo_joint_values.specs.Standing.{CanStand}
use Rattle.reo_joint_values.specs.Many.{AreDistinct, HasMany}
use Rattle.reo_refute_base.specs.Items.{Lists, items_at, offered_at, IsAdded, IsVisited}
use Rattle.reo_refute_parts.specs.declared.lists.visits.Brought.{Brought}
use Rattle.reo_refute_parts.specs.declared.lists.visits.Brought.TheVariants.{Nothing, Items, Many}

-- A list for each joint, of at most 256 items that can stand there, none twice.
pub record AreGood (net : Net) (lists : Lists) : Type 0 where
  pub one_each : length lists ≡ length net.joints
  pub sound : (j : ℕ) (item : Value) → j < length net.joints → Contains (items_at lists j) item
      → CanStand net j item
  pub distinct : (j : ℕ) → AreDistinct (items_at lists j)
  pub few : (j : ℕ) → length (items_at lists j) ≤ 256

-- What is new at a joint: with it at the back, all that is offered is there, at most 256 items.
pub record IsNew (net : Net) (lists : Lists) (j : ℕ) (new : List Value) : Type 0 where
  pub added : IsAdded (items_at lists j) (offered_at net lists j) (items_at lists j ++ new)
  pub few : length (items_at lists j) + length new ≤ 256

-- How many items all lists have.
abbrev pub total : Lists → ℕ
total lists = sum_by length lists

-- What a visit of a joint has brought.
abbrev pub Comes : Net → ℕ → Lists → Lists → Brought → Type 0
Comes net j old new Nothing = IsVisited net j old new × AreGood net new × (new ≡ old)
Comes net j old new Items = IsVisited net j old new × AreGood net new × (total old < total new)
Comes net j old new Many = HasMany net j
