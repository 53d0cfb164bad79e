-- Joints where more than 256 items can stand.
use Rattle.std.specs.Prelude.{ℕ, ◌≡◌, ◌↔◌, Bool, true, false, Contains}
use Rattle.reo_values.specs.declared.value.Value.{Value}
use Rattle.reo_net_base.specs.Net.{Net}
use Rattle.reo_net_base.specs.Wired.{IsWired}
use Rattle.reo_net_laws.specs.Parts.{IsClosed}
use Rattle.reo_joint_values.specs.Standing.{CanStand}
use Rattle.reo_joint_values.specs.Many.{HasMany, IsJointIn}
use Rattle.reo_reach.specs.Supplied.{Supplied, items_at, is_wide, IsClear, IsReached}

-- A joint where more than 256 items can stand is not clear.
abbrev pub ManyAreNotClear : Type 0
ManyAreNotClear = (net : Net) (supplied : Supplied) (j : ℕ)
    → IsReached net supplied j → HasMany net j → IsClear net supplied j → ⊥

-- Some joint of a set is wide exactly where at some joint of it more than 256 items can stand. If
-- none is wide, the list of each is exactly the items that can stand there.
pub record TellsItems (net : Net) (inside : ℕ → Bool) (supplied : Supplied) : Type 0 where
  pub wide : ((j : ℕ) × IsJointIn net inside j × (is_wide supplied j ≡ true))
      ↔ ((j : ℕ) × IsJointIn net inside j × HasMany net j)
  pub whole : ((j : ℕ) → IsJointIn net inside j → is_wide supplied j ≡ false)
      → (j : ℕ) (item : Value) → IsJointIn net inside j
      → Contains (items_at supplied j) item ↔ CanStand net j item

-- So it is for a set out of which no joint leads, once its joints are reached.
abbrev pub PartsAreTold : Type 0
PartsAreTold = (net : Net) → IsWired net → (inside : ℕ → Bool) → IsClosed net inside
    → (supplied : Supplied) → ((j : ℕ) → IsJointIn net inside j → IsReached net supplied j)
    → TellsItems net inside supplied
